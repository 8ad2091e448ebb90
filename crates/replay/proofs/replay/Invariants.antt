-- `replay::replay` meets its contract. The loop's invariant: what the calls from the one at i on do is what all of them do, and each area has
-- the length that it came with. The measure is how many calls are left. Assumes nothing.
use mathlib.Core.Path.{◌≡◌}
use lib.ListN.{length}
use Rattle.replay.proofs.Turning.{Replaying}
use Rattle.replay.proofs.replay.Given as goal

abbrev pub invariant-loop-i : goal.invariant-loop-i
invariant-loop-i l = Replaying l.calls (record { control = l.initial.control; stack = l.initial.stack; heap = l.initial.heap; trail = l.initial.trail }) l.initial.work l.i (record { control = l.control; stack = l.stack; heap = l.heap; trail = l.trail }) l.work × (length l.control ≡ length l.initial.control) × (length l.stack ≡ length l.initial.stack) × (length l.heap ≡ length l.initial.heap) × (length l.trail ≡ length l.initial.trail) × (length l.work ≡ length l.initial.work)
