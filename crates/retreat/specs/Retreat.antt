-- What a step back promises of an image that passes 1 to 7 and 17: with 8 or 9 the answer says so and nothing changes; else the answer counts
-- the entries undone and the areas are `stepped`. Assumes nothing.
use Rattle.machine.specs.declared.Refusal.{Refusal}
use Rattle.std.specs.Prelude.{Result}
use Rattle.std.specs.Prelude.{ℕ, ◌≡◌, ◌≢◌}
use Rattle.machine.specs.Layout.{Image}
use Rattle.machine.specs.Refusals.{accepted, first_of, step_checks}
use Rattle.machine.specs.Stepped.{undone, stepped}
use Rattle.machine.specs.Answers.{step_answer_of}

-- the image X, the answer r, and the areas Y at exit
pub record Retreats (X : Image) (r : Result ℕ Refusal) (Y : Image) : Type 0 where
  pub granted : first_of (step_checks X) ≡ accepted → (step_answer_of r ≡ record { verdict = accepted; undone = undone X }) × (Y ≡ stepped X)
  pub refused : first_of (step_checks X) ≢ accepted → (step_answer_of r ≡ record { verdict = first_of (step_checks X); undone = 0 }) × (Y ≡ X)
