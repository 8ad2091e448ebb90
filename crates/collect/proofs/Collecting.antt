-- The collection as a whole: where the image is refused nothing changes but the work words, and where it is admitted the phases together
-- are what `collect` promises. Assumes nothing.
use Rattle.std.specs.Prelude.{Ok, Err}
use Prim.Native.Nat.{ℕ}
use mathlib.Core.Path.{◌≡◌, refl, sym, ap, ◌∙◌}
use mathlib.Core.Logic.{◌≢◌}
use mathlib.Core.List.{List}
use native.Mathlib.Omega.{arith}
use lib.ListN.{length, drop}
use Rattle.machine.specs.declared.Refusal.{Refusal}
use Rattle.machine.specs.declared.Collected.{Collected}
use Rattle.machine.specs.Layout.{Image, H, reg}
use Rattle.machine.specs.Refusals.{accepted, work_words, verdict}
use Rattle.machine.specs.Answers.{answer_of, refusal, Collects}
use Rattle.machine.proofs.Verdicts.{verdict-iff, accepted-enough}
use Rattle.machine.proofs.Injective.{refusal-refuses}
use Rattle.machine.proofs.Works.{cleared_to, lent-cleared}
use Rattle.machine.proofs.Parts.{rest-later}
use Rattle.cells.specs.Cells.{checked_to}
use Rattle.admit.specs.Admits.{Admits}
use Rattle.collect.specs.Phases.{Reachable, Reaches, Closes}

module _ {X : Image} {work work' : List ℕ} where
  pub collects-refused : {r : Refusal} → Admits X work (Err r) work' → Collects X work (Err r) X work'
  unfolding checked_to answer_of
  collects-refused {r} a =
      let no : verdict (length work) X ≢ accepted = λ e. refusal-refuses r (a.gives ∙ e) in
      record {
        collected = λ e. absurd (no e);
        refused = λ n. (ap refusal a.gives, refl);
        cleared = a.refused no;
      }

  pub passes : Admits X work (Ok tt) work' → verdict (length work) X ≡ accepted
  unfolding checked_to
  passes a = sym a.gives

  pub reachable : Admits X work (Ok tt) work' → Reachable X work'
  reachable a =
      let v = (verdict-iff (length work) X).0 (passes a) in
      let p = a.passed (passes a) in
      record { accepted = v.0; room = omega (arith, v.1, p.same); blank = p.blank; noted = p.noted }

  pub collects-passed : Admits X work (Ok tt) work' → {work'' : List ℕ} {n : ℕ} → Reaches X work' work'' n → {Y : Image} {r : Collected} → Closes X Y r → {last : List ℕ} → last ≡ cleared_to X work'' → Collects X work (Ok r) Y last
  collects-passed a {work''} {n} m {Y} {r} c {last} e =
      let v = (verdict-iff (length work) X).0 (passes a) in
      let behind : drop (work_words X) work'' ≡ drop (work_words X) work = rest-later (reg X H) work'' work' m.rest (work_words X) (omega (arith, v.0.fits.heap)) ∙ (a.passed (passes a)).rest in
      record {
        collected = λ q. (c.to, c.answer);
        refused = λ q. absurd (q (passes a));
        cleared = e ∙ lent-cleared X work work'' (accepted-enough (length work) X (passes a)) behind;
      }
