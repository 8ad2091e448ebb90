-- When marking may pass over a structure: where its first cell is marked, so are its arguments, looked into already or still pending, since
-- only a STRUCT can have marked that cell. Lists are not passed over: a VAR alone may mark their first cell. Assumes nothing.
use Rattle.std.specs.Prelude.{ℕ, ◌<◌, ◌≡◌, List, get_or}
use Rattle.cell.specs.Word.{STRUCT, value_of, tag_of, Refers}
use Rattle.mark.specs.Marks.{Marked, ClearAmong}

-- where the first cell of a STRUCT among Words is marked, so is all that it refers to
pub record Whole (heap : List ℕ) (Words : ℕ → Type 0) (marks : List ℕ) : Type 0 where
  pub arguments : (w : ℕ) → Words w → tag_of w ≡ STRUCT → Marked marks (value_of w) → (x : ℕ) → Refers heap w x → Marked marks x

-- what passing over structures needs of the words that are looked into
pub record Passable (heap : List ℕ) (Words : ℕ → Type 0) (marks : List ℕ) : Type 0 where
  pub clear : ClearAmong heap Words
  pub whole : Whole heap Words marks

-- the words at indexes below n, those that Is picks
pub data Picked (words : List ℕ) (Is : ℕ → Type 0) (n : ℕ) : ℕ → Type 0 where
  at : (i : ℕ) → i < n → Is i → Picked words Is n (get_or words i 0)

-- the heap cells below h
abbrev pub CellsBelow : ℕ → List ℕ → ℕ → Type 0
CellsBelow h heap = Picked heap (λ (_ : ℕ). Unit {0}) h
