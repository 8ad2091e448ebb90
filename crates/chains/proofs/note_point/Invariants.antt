-- `chains::note_point` meets its contract: the fields before f have gained their roles, then the saved arguments theirs. Assumes nothing.
use Prim.Native.Nat.{◌+◌, ◌-◌}
use Rattle.chains.specs.Noting.{Gains, point_role}
use Rattle.chains.proofs.note_point.Given as goal

abbrev pub invariant-loop-f : goal.invariant-loop-f
invariant-loop-f l = Gains (λ j. point_role (j - l.b)) l.b (l.b + l.f) l.initial.notes l.notes
