-- `tally::frames::Frames::note_chain` meets its contract: n is the length of the chain from e, and every note is such a length.
-- Assumes nothing.
use Prim.Native.Nat.{◌≤◌}
use mathlib.Core.Path.{◌≡◌}
use Rattle.machine.specs.Layout.{none}
use Rattle.tally.specs.Parts.{Chain, Notes}
use Rattle.tally.proofs.Chains.{left}
use Rattle.tally.proofs.frames.Frames.note_chain.Given as goal

abbrev pub invariant-loop-e : goal.invariant-loop-e
invariant-loop-e l =
    (l.e ≤ none) × Chain l.self.stack.now l.e l.n × (l.self.stack ≡ l.initial.self.stack) × (l.self.notes.ghost_name ≡ l.initial.self.notes.ghost_name)
    × Notes l.initial.self.stack.now l.initial.self.notes.now l.self.notes.now

abbrev pub decreases-loop-e : goal.decreases-loop-e
decreases-loop-e l = left l.e
