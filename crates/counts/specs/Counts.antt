-- Where each heap cell goes, in the work words: below `top` the word x holds 2 d(x), and one more if the cell x is kept. So d is read
-- at any boundary, where the cell is dead too. Assumes nothing.
use Rattle.std.specs.Prelude.{ℕ, ◌+◌, ◌*◌, ◌≤◌, ◌<◌, ◌≡◌, ◌≢◌, Bool, List, length, get_or, drop, ltb}
use Rattle.cell.specs.Word.{pick, CONST, value_of, tag_of, stack_base}
use Rattle.machine.specs.Layout.{heap_most}
use Rattle.machine.specs.Moved.{below}

-- the cells whose work word is a mark
abbrev pub marked_in : List ℕ → ℕ → Bool
marked_in work x = ltb 0 (get_or work x 0)

pub record Counting (cells : ℕ → Bool) (top : ℕ) (work : List ℕ) : Type 0 where
  pub at : (x : ℕ) → x < top → get_or work x 0 ≡ below cells x * 2 + pick (cells x) 1 0

-- what `count` leaves of the marks below `top`, and its answer
pub record Counted (work : List ℕ) (top : ℕ) (work' : List ℕ) (r : ℕ) : Type 0 where
  pub counting : Counting (marked_in work) top work'
  pub total : r ≡ below (marked_in work) top
  pub rest : drop top work' ≡ drop top work
  pub same : length work' ≡ length work

-- the words below `top` are counts of some set, so they are small
pub record Low (top : ℕ) (work : List ℕ) : Type 0 where
  pub most : top ≤ heap_most
  pub inside : top ≤ length work
  pub words : (x : ℕ) → x < top → get_or work x 0 ≤ x * 2 + 1

-- a word whose value in the heap lies below `top`
abbrev pub Movable : ℕ → ℕ → Type 0
Movable top w = tag_of w ≢ CONST → value_of w < stack_base → value_of w < top
