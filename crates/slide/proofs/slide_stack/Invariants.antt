-- `slide::slide_stack` meets its contract. The loop's invariant: the words below i have become what `slid_word` ensures, whatever set was
-- counted, and the others are as they were. Assumes nothing.
use Prim.Native.Nat.{ℕ}
use mathlib.Core.Path.{◌≡◌}
use mathlib.Core.Bool.{Bool}
use mathlib.Core.List.{List}
use lib.ListN.{length}
use Rattle.machine.specs.Moved.{below}
use Rattle.counts.specs.Counts.{Counting}
use Rattle.slide.specs.Slides.{move_cell}
use Rattle.machine.proofs.InPlace.{InPlace}
use Rattle.slide.proofs.slide_stack.Given as goal

-- what the word w at i becomes
abbrev pub Becomes : List ℕ → List ℕ → ℕ → ℕ → ℕ → ℕ → Type 0
Becomes counts notes total i w v = (cells : ℕ → Bool) → Counting cells (length counts) counts → total ≡ below cells (length counts) → v ≡ move_cell cells notes i w

abbrev pub invariant-loop-i : goal.invariant-loop-i
invariant-loop-i l = InPlace (Becomes l.counts l.notes l.total) l.initial.stack l.stack l.i
