-- What the notes of a walk tell a caller: a note is of several roles exactly where the word is in conflict, and any other is that of one
-- role or none. Assumes nothing.
use Prim.Native.Nat.{ℕ, ◌<◌}
use mathlib.Core.Path.{◌≡◌}
use mathlib.Core.Bool.{true, false}
use mathlib.Core.List.{List}
use native.Mathlib.Omega.{arith}
use native.Mathlib.Decide.{dec_lt}
use borrow.Author.Tests.{leb-true, le-leb, leb-false}
use lib.ListN.{length}
use Rattle.machine.specs.Layout.{Image}
use Rattle.machine.specs.Chains.{whole, walk, fault_of}
use Rattle.machine.specs.Roles.{Role, has, conflict, note_at}
use Rattle.machine.proofs.Tests.{same_bool}
use Rattle.machine.proofs.Roles.{has-is, is-has, conflict-two, two-conflict}
use Rattle.chains.specs.Notes.{several, several_at, Shows, Noted}
use Rattle.chains.proofs.Shows.{shown-code, shown-one, shown-known, shown-few, shown-several}

-- `n` is what `Walks` says of an image that is whole
module _ (X : Image) (work : List ℕ) (notes : ℕ) (n : (fault_of X (walk X) ≡ whole) × ((i : ℕ) → i < length X.stack → Shows (λ (role : Role). has X i role ≡ true) (note_at work notes i))) where
  pub conflict-noted : (i : ℕ) → i < length X.stack → several_at work notes i ≡ conflict X i
  unfolding several_at
  conflict-noted i l =
      same_bool _ _
      (λ m.
      let s = shown-several (n.1 i l) (leb-true several (note_at work notes i) m) in
      two-conflict X n.0 i s.0 s.1 (has-is X i s.0 s.2) (has-is X i s.1 s.3) s.4)
      (λ e.
      let c = conflict-two X i e in
      elim (dec_lt (note_at work notes i) several) [
        | yes f ↦ absurd (c.4 (shown-few (n.1 i l) f c.0 c.1 (is-has X n.0 i c.0 c.2) (is-has X n.0 i c.1 c.3)))
        | no f ↦ le-leb several (note_at work notes i) (omega arith)
      ])

  pub noted-of-walk : ((i : ℕ) → i < length X.stack → several_at work notes i ≡ false) → Noted X work notes
  unfolding several_at
  noted-of-walk f =
      let few : (i : ℕ) → i < length X.stack → note_at work notes i < several = λ i l. omega (arith, leb-false several (note_at work notes i) (f i l)) in
      record {
        role = λ i l r. (λ e. (shown-code r (n.1 i l) e).0, λ h. shown-one (n.1 i l) (few i l) h);
        known = λ i l. shown-known (n.1 i l) (few i l);
      }
