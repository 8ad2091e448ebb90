-- The answer of a step back from an image that passes 1 to 7 and 17: 8 where B is none, 9 where the control area is too short for the choice
-- point, and else the entries undone. Assumes nothing.
use Rattle.std.specs.Prelude.{Ok, Err}
use Prim.Native.Nat.{ℕ, ◌+◌, ◌<◌}
use mathlib.Core.Path.{◌≡◌, refl, sym, ap, ◌∙◌}
use mathlib.Core.Logic.{◌≢◌}
use mathlib.Core.Bool.{not}
use borrow.Author.Tests.{eq-eqb, ne_eqb, le-leb, lt-leb}
use lib.ListN.{length}
use Rattle.machine.specs.declared.Refusal.{Refusal}
use Rattle.machine.specs.declared.Refusal.TheVariants.{NoChoicePoint, ControlShort}
use Rattle.machine.specs.Layout.{Image, B, N, fixed, none, reg, at}
use Rattle.machine.specs.Refusals.{Verdict, accepted, first_of, step_checks}
use Rattle.machine.specs.Stepped.{undone, stepped}
use Rattle.machine.specs.Answers.{StepAnswer, verdict_of, step_answer_of}
use Rattle.machine.proofs.Accepted.{Granted}
use Rattle.machine.proofs.Firsts.{passes-gate, refuses-gate, first-skips, all_first, first-given}
use Rattle.machine.proofs.Injective.{refusal-refuses}
use Rattle.retreat.specs.Retreat.{Retreats}

abbrev pub step_refusal : Verdict → StepAnswer
step_refusal v = record { verdict = v; undone = 0 }

module _ (X : Image) where
  -- a refusal, and nothing changes
  retreats-refused : (r : Refusal) → first_of (step_checks X) ≡ verdict_of r → Retreats X (Err r) X
  unfolding step_answer_of
  retreats-refused r e = record {
    granted = λ p. absurd (refusal-refuses r (sym e ∙ p));
    refused = λ p. (ap step_refusal (sym e), refl);
  }

  -- 8
  pub retreats-none : reg X B ≡ none → Retreats X (Err NoChoicePoint) X
  unfolding verdict_of
  retreats-none e = retreats-refused NoChoicePoint (first-given _ _ (refuses-gate _ _ (ap not (eq-eqb (reg X B) none e))))

  -- 9
  pub retreats-short : reg X B ≢ none → length X.control < fixed + at X (reg X B) N → Retreats X (Err ControlShort) X
  unfolding verdict_of
  retreats-short n l =
      retreats-refused ControlShort
      (first-skips _ _ (passes-gate _ _ (ap not (ne_eqb (reg X B) none n))) ∙ first-given _ _ (refuses-gate _ _ (lt-leb (fixed + at X (reg X B) N) (length X.control) l)))

  -- the entries undone, and the areas `stepped`
  pub retreats-done : Granted X → (n : ℕ) → n ≡ undone X → (Y : Image) → Y ≡ stepped X → Retreats X (Ok n) Y
  unfolding step_answer_of
  retreats-done g n e Y s = record {
    granted = λ p. (λ i. record { verdict = accepted; undone = e i }, s);
    refused = λ p. absurd (p (all_first (step_checks X) (passes-gate _ _ (ap not (ne_eqb (reg X B) none g.some)), (passes-gate _ _ (le-leb _ _ g.room), tt))));
  }
