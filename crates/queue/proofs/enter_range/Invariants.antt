-- `enter_range` meets its contract. The loop's invariant: the cells from a up to x have joined. Assumes nothing.
use Rattle.queue.specs.Entering.{Entered}
use Rattle.queue.proofs.enter_range.Given as goal

abbrev pub invariant-loop-x : goal.invariant-loop-x
invariant-loop-x l = Entered l.a l.initial.queue l.tail l.x l.queue l.t
