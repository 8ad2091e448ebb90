-- Checks: the invariant of a loop over records of one kind, in which what is left to check gives the verdict of all; checks one after
-- the other; and where a `?` leaves. Assumes nothing.
use Prim.Native.Nat.{ℕ, ◌+◌, ◌-◌, ◌≤◌, ◌<◌}
use mathlib.Core.Path.{◌≡◌, sym, ap, ◌∙◌, subst}
use mathlib.Core.List.{List, [], ◌∷◌}
use native.Mathlib.Omega.{arith}
use native.Mathlib.Nat.{sub-zero}
use Rattle.std.specs.Prelude.{Result, Ok, Err, IsErrAnd}
use Rattle.std.proofs.lemmas.Result.{err_from_is_err_and}
use Rattle.freeze.specs.declared.FileRefusal.{FileRefusal}
use Rattle.freeze.specs.Kinds.{record_size, past}
use Rattle.freeze.specs.Verdicts.{FileVerdict, accepted, verdict_of, first_of}
use Rattle.freeze.specs.Records.{records_verdict}
use Rattle.freeze.specs.Parts.{Checks}
use Rattle.freeze.proofs.VerdictLaws.{first_passes, or_else-nothing}
use Rattle.freeze.proofs.RecordLaws.{expected, turn-stops, turn-goes-on, past_more}

module _ (file : List ℕ) (kind from count : ℕ) where
  pub record Checking (at j : ℕ) : Type 0 where
    pub begun : j ≤ count
    pub place : at ≡ past from kind j
    pub left : records_verdict file kind from count ≡ records_verdict file kind at (count - j)

  pub checking-none : Checking from 0
  checking-none = record { begun = omega arith; place = omega arith; left = rw sub-zero }

  pub checking-more : (at j : ℕ) → Checking at j → j < count → expected file kind at ≡ accepted → Checking (at + record_size kind) (j + 1)
  checking-more at j i h e = record {
    begun = omega arith;
    place = ap (λ (x : ℕ). x + record_size kind) i.place ∙ past_more from kind j;
    left = i.left ∙ turn-goes-on file kind count at j h e;
  }

  pub checking-stops : (at j : ℕ) (r : FileRefusal) → Checking at j → j < count → expected file kind at ≡ verdict_of r → records_verdict file kind from count ≡ verdict_of r
  checking-stops at j r i h e = i.left ∙ turn-stops file kind count at j r h e

  pub checking-ends : (at j : ℕ) → Checking at j → count ≤ j → (records_verdict file kind from count ≡ accepted) × (at ≡ past from kind count)
  unfolding records_verdict
  checking-ends at j i h =
      let s : j ≡ count = omega (arith, i.begun) in
      let z : count - j ≡ 0 = omega arith in
      (i.left ∙ ap (records_verdict file kind at) z, i.place ∙ ap (past from kind) s)

-- a check of records in a row at an offset that is given in another way
module _ (file : List ℕ) (kind n : ℕ) {at at' : ℕ} (e : at ≡ at') where
  pub check-from : (r : Result ℕ FileRefusal) → Checks (records_verdict file kind at n) (past at kind n) r → Checks (records_verdict file kind at' n) (past at' kind n) r
  check-from r is = subst (λ (x : ℕ). Checks (records_verdict file kind x n) (past x kind n) r) e is

  pub good-from : {next : ℕ} → (records_verdict file kind at n ≡ accepted) × (next ≡ past at kind n) → (records_verdict file kind at' n ≡ accepted) × (next ≡ past at' kind n)
  good-from {next} p = check-from (Ok next) p

  pub refused-from : (q : FileRefusal) → records_verdict file kind at n ≡ verdict_of q → records_verdict file kind at' n ≡ verdict_of q
  refused-from q w = check-from (Err q) w

-- checks one after the other: the first passes, and the others speak; there is no other
module _ {A : Type 0} (found : A) (r : Result A FileRefusal) where
  pub stage-passed : {v : FileVerdict} (vs : List FileVerdict) → v ≡ accepted → Checks (first_of vs) found r → Checks (first_of (v ∷ vs)) found r
  stage-passed vs e is = subst (λ (v : FileVerdict). Checks v found r) (sym (first_passes vs e)) is

  pub stage-last : (v : FileVerdict) → Checks v found r → Checks (first_of (v ∷ [])) found r
  unfolding first_of
  stage-last v is = subst (λ (v : FileVerdict). Checks v found r) (sym (or_else-nothing v)) is

-- where a `?` leaves: the answer is the refusal that it met
pub exit-refused : {A : Type 0} {v : FileVerdict} (found : A) (r : Result A FileRefusal) (q : FileRefusal) → IsErrAnd r (λ p. p ≡ q) → v ≡ verdict_of q → Checks v found r
exit-refused found r q is e = let p = err_from_is_err_and r is in rw (p.1, p.2) e
