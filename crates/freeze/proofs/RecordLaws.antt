-- Laws of one record and of records in a row: the verdict in each case, what a record that passes says, and one turn of a loop over
-- them, stated of what is left to do. Assumes nothing.
use Prim.Native.Nat.{ℕ, suc, ◌+◌, ◌*◌, ◌-◌, ◌≤◌, ◌<◌}
use mathlib.Core.Path.{◌≡◌, refl, ap, subst}
use mathlib.Core.Bool.{Bool, true, false}
use mathlib.Core.List.{List}
use native.Mathlib.Omega.{arith}
use native.Mathlib.Nat.{suc-mul}
use lib.ListN.{length}
use lib.Dec.{eqb, leb}
use borrow.Author.Tests.{le-leb, lt-leb, leb-true, eqb-true}
use Rattle.freeze.specs.declared.FileRefusal.{FileRefusal}
use Rattle.freeze.specs.declared.FileRefusal.TheVariants.{Cut, Kind}
use native.Mathlib.Numerals.{add-one}
use Rattle.freeze.specs.Kinds.{pick, used, record_size, past}
use Rattle.freeze.specs.Verdicts.{FileVerdict, accepted, verdict_of, or_else, if_accepted}
use Rattle.freeze.specs.Records.{kind_at, record_verdict, record_answer_of, record_at, offset_after, records_verdict}
use Rattle.freeze.proofs.VerdictLaws.{or_else-refusal, refusal-refuses}

-- all that the answers of the record reader compute with
unfoldable pub record_answers : Unit {0}
unfolding used verdict_of if_accepted record_verdict record_answer_of record_at offset_after
record_answers = tt

module _ (right : ℕ → Bool) (file : List ℕ) (at : ℕ) where
  pub record-missing : length file ≤ at → record_verdict right file at ≡ verdict_of (Cut (length file))
  unfolding record_verdict
  record-missing h = simp (le-leb (length file) at h)

  pub record-other : at < length file → right (kind_at file at) ≡ false → record_verdict right file at ≡ verdict_of (Kind at)
  unfolding record_verdict
  record-other h e = simp (lt-leb (length file) at h, e)

  pub record-cut : at < length file → right (kind_at file at) ≡ true → length file < at + record_size (kind_at file at) → record_verdict right file at ≡ verdict_of (Cut at)
  unfolding record_verdict
  record-cut h e s = simp (lt-leb (length file) at h, e, lt-leb (at + record_size (kind_at file at)) (length file) s)

  pub record-whole : right (kind_at file at) ≡ true → at + record_size (kind_at file at) ≤ length file → record_verdict right file at ≡ accepted
  unfolding record_verdict
  record-whole e s = simp (lt-leb (length file) at (omega arith), e, le-leb (at + record_size (kind_at file at)) (length file) s)

passes : (a b c : Bool) (x y z : FileRefusal) → pick a (verdict_of x) (pick b (pick c accepted (verdict_of y)) (verdict_of z)) ≡ accepted → (b ≡ true) × (c ≡ true)
passes true b c x y z e = absurd (refusal-refuses x e)
passes false true true x y z e = (refl, refl)
passes false true false x y z e = absurd (refusal-refuses y e)
passes false false c x y z e = absurd (refusal-refuses z e)

module _ (file : List ℕ) (kind : ℕ) where
  abbrev pub expected : ℕ → FileVerdict
  expected at = record_verdict (λ k. eqb k kind) file at

  -- a record that passes is of the kind, and whole
  pub passed-kind : (at : ℕ) → expected at ≡ accepted → (kind_at file at ≡ kind) × (at + record_size kind ≤ length file)
  unfolding record_verdict
  passed-kind at e =
      let p = passes (leb (length file) at) (eqb (kind_at file at) kind) (leb (at + record_size (kind_at file at)) (length file)) (Cut (length file)) (Cut at) (Kind at) e in
      let k : kind_at file at ≡ kind = eqb-true (kind_at file at) kind p.0 in
      let w : at + record_size (kind_at file at) ≤ length file = leb-true _ _ p.1 in
      (k, subst (λ (x : ℕ). at + record_size x ≤ length file) k w)

  -- one turn of a loop over records: it stops, or it goes on with one record fewer
  pub turn-stops : (count at j : ℕ) (r : FileRefusal) → j < count → expected at ≡ verdict_of r → records_verdict file kind at (count - j) ≡ verdict_of r
  unfolding records_verdict
  turn-stops count at j r h e =
      let s : count - j ≡ suc (count - (j + 1)) = omega arith in
      rw (s, e, or_else-refusal _ r)

  pub turn-goes-on : (count at j : ℕ) → j < count → expected at ≡ accepted → records_verdict file kind at (count - j) ≡ records_verdict file kind (at + record_size kind) (count - (j + 1))
  unfolding records_verdict or_else
  turn-goes-on count at j h e =
      let s : count - j ≡ suc (count - (j + 1)) = omega arith in
      rw (s, e)

-- the offset after one record more
pub past_more : (from kind j : ℕ) → past from kind j + record_size kind ≡ past from kind (j + 1)
past_more from kind j = omega (arith, suc-mul j (record_size kind), ap (λ (k : ℕ). k * record_size kind) (add-one j))
