-- What is promised of a text that is put into a lent output. Assumes nothing.
use Rattle.std.specs.Prelude.{ℕ, ◌+◌, ◌-◌, ◌≤◌, min, ◌≡◌, List, length}
use Rattle.std.proofs.lemmas.List.Edits.{sets}

-- A text is put into the output from a place on, and the next place answered. Bytes past the output's end are left out.
pub record Puts (output : List ℕ) (at : ℕ) (text : List ℕ) (r : ℕ) (left : List ℕ) : Type 0 where
  pub next : r ≡ at + min (length text) (length output - at)
  pub written : left ≡ sets output at text

-- a text of no more than so many bytes is put
pub record PutsShort (most : ℕ) (output : List ℕ) (at : ℕ) (text : List ℕ) (r : ℕ) (left : List ℕ) : Type 0 where
  pub puts : Puts output at text r left
  pub short : length text ≤ most

-- a space and twenty digits hold every number below 2 ^ 64
abbrev pub number_most : ℕ
number_most = 21
