-- How cells join the queue. It stands in the work words below H, `queue`, up to `tail`. Assumes nothing.
use Rattle.std.specs.Prelude.{ℕ, ◌+◌, ◌-◌, ◌*◌, ◌<◌, ◌≤◌, ◌≡◌, List, [], ◌∷◌, length, get_or, set, eqb}
use Rattle.cell.specs.Word.{pick, value_of, extent}
use Rattle.machine.specs.Layout.{heap_most}
use Rattle.machine.specs.Roles.{cell, code_of}
use Rattle.mark.specs.Marks.{Within}
use Rattle.queue.specs.Filled.{met_bit, entry_of, nothing}

unfoldable pub unmet : List ℕ → ℕ
unmet [] = 0
unmet (w ∷ ws) = (1 - met_bit w) + unmet ws

-- There is a place for each cell that is not met. The words from the tail on hold nothing but their own cell's bit.
pub record Fit (queue : List ℕ) (tail : ℕ) : Type 0 where
  pub small : length queue ≤ heap_most
  pub room : unmet queue + tail ≤ length queue
  pub inside : (j : ℕ) → j < tail → entry_of (get_or queue j 0) < length queue
  pub free : (j : ℕ) → tail ≤ j → get_or queue j 0 < 2

-- the cell x is met now
unfoldable pub meet : List ℕ → ℕ → List ℕ
meet queue x = set queue x (get_or queue x 0 + 1)

-- and stands at the queue's end
unfoldable pub put : List ℕ → ℕ → ℕ → List ℕ
put queue tail x = set (meet queue x) tail (get_or (meet queue x) tail 0 + x * 4)

-- the cell x has joined, unless it was met
pub data Joined (queue : List ℕ) (tail x : ℕ) : List ℕ → ℕ → Type 0 where
  old : met_bit (get_or queue x 0) ≡ 1 → Joined queue tail x queue tail
  new : met_bit (get_or queue x 0) ≡ 0 → Joined queue tail x (put queue tail x) (tail + 1)

-- the cells from a up to, not including, z have joined, one after the other
pub data Entered (a : ℕ) (queue : List ℕ) (tail : ℕ) : ℕ → List ℕ → ℕ → Type 0 where
  none : Entered a queue tail a queue tail
  more : {x t t' : ℕ} {q q' : List ℕ} → Entered a queue tail x q t → Joined q t x q' t' → Entered a queue tail (x + 1) q' t'

-- the source w has been read
abbrev pub Read : List ℕ → ℕ → List ℕ → ℕ → List ℕ → ℕ → Type 0
Read heap w queue tail queue' tail' = Entered (value_of w) queue tail (value_of w + extent heap w) queue' tail'

-- the first n sources have been read, one after the other
pub data ReadAll (heap : List ℕ) (word : ℕ → ℕ) (queue : List ℕ) (tail : ℕ) : ℕ → List ℕ → ℕ → Type 0 where
  none : ReadAll heap word queue tail 0 queue tail
  more : {n t t' : ℕ} {q q' : List ℕ} → ReadAll heap word queue tail n q t → Read heap (word n) q t q' t' → ReadAll heap word queue tail (n + 1) q' t'

-- what reading n sources needs
pub record Readable (heap : List ℕ) (word : ℕ → ℕ) (n : ℕ) (queue : List ℕ) (tail : ℕ) : Type 0 where
  pub fit : Fit queue tail
  pub deep : length queue ≤ length heap
  pub within : (s : ℕ) → s < n → Within (length queue) heap (word s)

-- the source that a stack word is, as its note says
unfoldable pub stack_word : List ℕ → List ℕ → ℕ → ℕ
stack_word stack notes i = pick (eqb (get_or notes i 0) (code_of cell)) (get_or stack i 0) nothing
