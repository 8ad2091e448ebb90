-- `retreat::undo` meets its contract. The loop's invariant: the entries passed are undone. Assumes nothing.
use Prim.Native.Nat.{◌+◌}
use Rattle.retreat.specs.Undo.{Undid}
use Rattle.retreat.proofs.undo.Given as goal

abbrev pub invariant-loop-entry : goal.invariant-loop-entry
invariant-loop-entry l = Undid l.trail l.a (l.a + l.entry-index) l.initial.heap l.initial.stack l.heap l.stack
