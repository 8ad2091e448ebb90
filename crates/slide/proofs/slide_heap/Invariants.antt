-- `slide::slide_heap` meets its contract. The loop's invariant: the cells from x on are as they were, and those before x are closed up,
-- whichever set is counted. Assumes nothing.
use Prim.Native.Nat.{ℕ}
use mathlib.Core.Bool.{Bool}
use lib.ListN.{length}
use Rattle.machine.specs.Moved.{below, move_word}
use Rattle.counts.specs.Counts.{Counting}
use Rattle.slide.specs.Closed.{Passed, Closed}
use Rattle.slide.proofs.slide_heap.Given as goal

abbrev pub invariant-loop-x : goal.invariant-loop-x
invariant-loop-x l =
    Passed l.initial.heap l.heap l.x l.to × ((cells : ℕ → Bool) → Counting cells (length l.counts) l.counts → Closed cells (move_word (below cells)) l.initial.heap l.heap l.x l.to)
