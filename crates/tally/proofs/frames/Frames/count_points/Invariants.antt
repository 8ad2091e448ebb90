-- `tally::frames::Frames::count_points` meets its contract: so many choice points are passed and counted (`Points`). Each lies above the
-- next, so the walk ends. Assumes nothing.
use Prim.Native.Nat.{◌≤◌}
use mathlib.Core.Path.{◌≡◌}
use Rattle.machine.specs.Layout.{none}
use Rattle.tally.proofs.Chains.{left}
use Rattle.tally.proofs.Points.{Passed}
use Rattle.tally.proofs.frames.Frames.count_points.Given as goal

abbrev pub invariant-loop-next : goal.invariant-loop-next
invariant-loop-next l =
    (l.next ≤ none) × (l.b ≤ none) × (l.initial.counted.points ≡ 0) × (l.self.stack ≡ l.initial.self.stack)
    × (l.self.notes.ghost_name ≡ l.initial.self.notes.ghost_name)
    × Passed l.self.stack.now l.b l.initial.counted l.initial.self.notes.now l.next l.counted l.self.notes.now

abbrev pub decreases-loop-next : goal.decreases-loop-next
decreases-loop-next l = left l.next
