-- `drain` meets its contract. The loop's invariant is `Draining`; the measure counts the cells that are not looked into yet. Assumes nothing.
use lib.ListN.{length}
use Rattle.mark.specs.Whole.{Passable, CellsBelow}
use Rattle.mark.proofs.Drains.{Draining, left}
use Rattle.mark.proofs.drain.Given as goal

abbrev pub invariant-loop-t : goal.invariant-loop-t
invariant-loop-t l = Draining l.heap l.initial.marks l.marks l.t × Passable l.heap (CellsBelow (length l.initial.marks) l.heap) l.marks

abbrev pub decreases-loop-t : goal.decreases-loop-t
decreases-loop-t l = left l.marks l.t
