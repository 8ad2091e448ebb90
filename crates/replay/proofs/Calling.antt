-- What the answers of `collect` and `step_back` say of their verdicts: a call is granted exactly where its answer is no refusal.
-- Assumes nothing.
use Rattle.std.specs.Result.{is_ok}
use Rattle.std.specs.Prelude.{Result, Ok, Err}
use Prim.Native.Nat.{ℕ, suc, ◌-◌}
use mathlib.Core.Path.{◌≡◌, refl, sym, ap, ◌∙◌}
use mathlib.Core.Logic.{◌≢◌}
use mathlib.Core.List.{List}
use native.Mathlib.Omega.{arith}
use Rattle.machine.specs.declared.Refusal.{Refusal}
use Rattle.machine.specs.declared.Collected.{Collected}
use Rattle.machine.specs.Layout.{Image}
use Rattle.machine.specs.Refusals.{Verdict, accepted, refused}
use Rattle.machine.specs.Answers.{Answer, answer_of, counted, Collects, StepAnswer, step_answer_of, StepsBack}
use Rattle.machine.proofs.Firsts.{refused-not}
use Rattle.machine.proofs.Injective.{refusal-refuses}
use Rattle.replay.specs.Replays.{Calls, collected, not_collected, stepped, not_stepped}

-- an answer that gives the verdict where that refuses, and itself accepts
accepts : (v w : Verdict) → (v ≢ accepted → w ≡ v) → w ≡ accepted → v ≡ accepted
accepts accepted w given a = refl
accepts (refused n p) w given a = sym (given (refused-not n p)) ∙ a

-- a byte that steps back
not-zero : (b : ℕ) → b ≢ 0 → b ≡ suc (b - 1)
not-zero b z = omega arith

module _ {X Y : Image} {work work' : List ℕ} (b : ℕ) where
  pub collect-calls : b ≡ 0 → (answer : Result Collected Refusal) → Collects X work answer Y work' → Calls b X work (is_ok answer) Y work'
  unfolding answer_of counted
  collect-calls z (Ok done) c = rw z (collected (accepts _ _ (λ n. ap (λ (a : Answer). a.verdict) (c.refused n).0) refl) c)
  collect-calls z (Err r) c = rw z (not_collected (λ v. refusal-refuses r (ap (λ (a : Answer). a.verdict) (c.collected v).1)) c)

  pub step-calls : b ≢ 0 → (answer : Result ℕ Refusal) → StepsBack X work answer Y work' → Calls b X work (is_ok answer) Y work'
  unfolding step_answer_of
  step-calls z (Ok n) c = rw (not-zero b z) (stepped (accepts _ _ (λ n. ap (λ (a : StepAnswer). a.verdict) (c.refused n).0) refl) c)
  step-calls z (Err r) c = rw (not-zero b z) (not_stepped (λ v. refusal-refuses r (ap (λ (a : StepAnswer). a.verdict) (c.granted v).0)) c)
