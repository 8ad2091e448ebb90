-- What the parts of a step back leave is what `StepsBack` promises: a refusal of 1 to 7 or 17 is given as it is, and of an image that passes
-- them 8, 9 or the entries undone are given and the lent words are zeros. Assumes nothing.
use Rattle.std.specs.Prelude.{Result, Err}
use Prim.Native.Nat.{ℕ}
use mathlib.Core.Path.{◌≡◌, refl, sym, ap, ◌∙◌}
use mathlib.Core.Logic.{◌≢◌}
use mathlib.Core.List.{List}
use lib.ListN.{length, drop}
use Rattle.machine.specs.declared.Refusal.{Refusal}
use Rattle.machine.specs.Layout.{Image}
use Rattle.machine.specs.Refusals.{accepted, first_of, work_words, verdict, step_checks, step_verdict}
use Rattle.machine.specs.Answers.{verdict_of, step_answer_of, work_after, StepsBack}
use Rattle.machine.proofs.Firsts.{else-left, else-passes, else-refuses}
use Rattle.machine.proofs.Verdicts.{accepted-enough}
use Rattle.machine.proofs.Injective.{refusal-refuses}
use Rattle.machine.proofs.Works.{cleared_to, lent-cleared}
use Rattle.retreat.specs.Retreat.{Retreats}
use Rattle.retreat.proofs.Answering.{step_refusal}

module _ (X : Image) (work : List ℕ) where
  -- refused by 1 to 7 or 17
  pub refusal-given : (r : Refusal) → verdict_of r ≡ verdict (length work) X → {work' : List ℕ} → (verdict (length work) X ≢ accepted → work' ≡ work_after X work) → StepsBack X work (Err r) X work'
  unfolding step_verdict step_answer_of
  refusal-given r e c =
      let n : verdict (length work) X ≢ accepted = λ z. refusal-refuses r (e ∙ z) in
      record {
        granted = λ p. absurd (n (else-left (verdict (length work) X) (first_of (step_checks X)) p));
        refused = λ p. (ap step_refusal (e ∙ sym (else-refuses (verdict (length work) X) (first_of (step_checks X)) n)), refl);
        cleared = c n;
      }

  -- what passes these is answered as 8 and 9 say, and of the lent words the noted ones are cleared
  pub answer-given : verdict (length work) X ≡ accepted → {r : Result ℕ Refusal} {Y : Image} → Retreats X r Y → (work₁ : List ℕ) {work' : List ℕ} → drop (work_words X) work₁ ≡ drop (work_words X) work → work' ≡ cleared_to X work₁ → StepsBack X work r Y work'
  unfolding step_verdict
  answer-given passes t work₁ d c =
      let e = else-passes (verdict (length work) X) (first_of (step_checks X)) passes in
      record {
        granted = λ p. t.granted (sym e ∙ p);
        refused = λ p. let q = t.refused (λ z. p (e ∙ z)) in (q.0 ∙ ap step_refusal (sym e), q.1);
        cleared = c ∙ lent-cleared X work work₁ (accepted-enough (length work) X passes) d;
      }
