-- `chains::walk_points` meets its contract: the choice point at hand is due in place of the first. It ends at or below the one before
-- it, so the end falls. Assumes nothing.
use Prim.Native.Nat.{◌≤◌}
use lib.ListN.{length}
use Rattle.machine.specs.Layout.{none}
use Rattle.machine.specs.Chains.{point}
use Rattle.machine.specs.Lent.{seen}
use Rattle.chains.specs.Noting.{first_point}
use Rattle.chains.proofs.Walkings.{Walking}
use Rattle.chains.proofs.walk_points.Given as goal

abbrev pub invariant-loop-next : goal.invariant-loop-next
invariant-loop-next l = (l.end ≤ length l.view.stack.now) × (l.next ≤ none) × Walking (seen l.view) (first_point (seen l.view)) l.initial.notes (point l.next l.end l.most_t l.most_h) l.notes

abbrev pub decreases-loop-next : goal.decreases-loop-next
decreases-loop-next l = l.end
