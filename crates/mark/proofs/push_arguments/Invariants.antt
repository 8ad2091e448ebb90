-- `push_arguments` meets its contract. The loop's invariant: what the saved arguments so far refer to is pushed. Assumes nothing.
use Prim.Native.Nat.{ℕ, ◌+◌, ◌≤◌}
use Rattle.machine.specs.Layout.{fixed}
use Rattle.mark.specs.Pending.{Pushed}
use Rattle.mark.specs.Roots.{Named}
use Rattle.mark.proofs.push_arguments.Given as goal

abbrev pub invariant-loop-word : goal.invariant-loop-word
invariant-loop-word l = Pushed l.heap (Named l.heap l.control (λ (j : ℕ). fixed ≤ j) (fixed + l.word-index)) l.initial.marks 0 l.marks l.t
