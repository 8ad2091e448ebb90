-- `push_range` meets its contract. The loop's invariant: the cells from a up to x are pushed. Assumes nothing.
use Prim.Native.Nat.{◌≤◌, max}
use Rattle.mark.specs.Pending.{Range, Pushed}
use Rattle.mark.proofs.push_range.Given as goal

abbrev pub invariant-loop-x : goal.invariant-loop-x
invariant-loop-x l = (l.x ≤ max l.a l.z) × Pushed l.heap (Range l.a l.x) l.initial.marks l.top l.marks l.t
