-- `retreat::copy` meets its contract. The loop's invariant: the words below i are the choice point's, and the others as they were. Assumes
-- nothing.
use Prim.Native.Nat.{ℕ}
use mathlib.Core.Path.{◌≡◌}
use Rattle.machine.proofs.InPlace.{InPlace}
use Rattle.retreat.specs.Undo.{copied_word}
use Rattle.retreat.proofs.copy.Given as goal

abbrev pub invariant-loop-i : goal.invariant-loop-i
invariant-loop-i l = InPlace (λ (k : ℕ) (w : ℕ) (v : ℕ). v ≡ copied_word l.stack l.b l.count k w) l.initial.control l.control l.i
