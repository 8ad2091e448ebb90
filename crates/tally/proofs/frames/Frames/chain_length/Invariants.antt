-- `tally::frames::Frames::chain_length` meets its contract: so many frames are passed, and a chain from the frame at hand is one from the first
-- (`Chains`). Each frame lies above the next, so the walk ends. Assumes nothing.
use Prim.Native.Nat.{◌≤◌}
use Rattle.machine.specs.Layout.{none}
use Rattle.tally.proofs.Chains.{left, Passed}
use Rattle.tally.proofs.frames.Frames.chain_length.Given as goal

abbrev pub invariant-loop-e : goal.invariant-loop-e
invariant-loop-e l = (l.e ≤ none) × (l.from ≤ none) × Passed l.self.stack.now l.from l.n l.e

abbrev pub decreases-loop-e : goal.decreases-loop-e
decreases-loop-e l = left l.e
