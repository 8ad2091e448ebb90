-- `push_cells` meets its contract. The loop's invariant: what the stack's cells so far refer to is pushed. Assumes nothing.
use lib.ListN.{length}
use Rattle.mark.specs.Pending.{Pushed}
use Rattle.mark.specs.Roots.{Named, NotedCell}
use Rattle.mark.proofs.push_cells.Given as goal

abbrev pub invariant-loop-word : goal.invariant-loop-word
invariant-loop-word l = Pushed l.heap (Named l.heap l.stack (NotedCell l.notes) (length l.yielded)) l.initial.marks l.top l.marks l.t
