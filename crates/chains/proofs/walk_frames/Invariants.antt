-- `chains::walk_frames` meets its contract: the frame at hand is due in place of the first. It ends at or below the one before it, so the
-- end falls. Assumes nothing.
use Prim.Native.Nat.{◌≤◌}
use lib.ListN.{length}
use Rattle.machine.specs.Layout.{none, size_of}
use Rattle.machine.specs.Chains.{frame}
use Rattle.machine.specs.Lent.{seen}
use Rattle.chains.proofs.Walkings.{Walking}
use Rattle.chains.proofs.walk_frames.Given as goal

abbrev pub invariant-loop-next : goal.invariant-loop-next
invariant-loop-next l = (l.end ≤ length l.view.stack.now) × (l.next ≤ none) × Walking (seen l.view) (frame l.e (size_of l.l) l.limit) l.initial.notes (frame l.next (size_of l.size) l.end) l.notes

abbrev pub decreases-loop-next : goal.decreases-loop-next
decreases-loop-next l = l.end
