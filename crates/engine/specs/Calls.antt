-- What the collection and the step back promise a caller in C: the library's promises, with each answer as numbers. Assumes nothing.
use Rattle.machine.specs.declared.Refusal.{Refusal}
use Rattle.std.specs.Prelude.{Result, Ok, Err}
use Rattle.std.specs.Prelude.{ℕ, ◌≡◌, List}
use Rattle.machine.specs.Layout.{Image}
use Rattle.machine.specs.declared.Collected.{Collected}
use Rattle.machine.specs.Answers.{Answer, answer_of, Collects, StepAnswer, step_answer_of, StepsBack}
use Rattle.engine.specs.declared.BikCollected.{BikCollected}
use Rattle.engine.specs.declared.BikStepped.{BikStepped}
use Rattle.engine.specs.Reasons.{reason_of}

unfoldable pub collected_of : Answer → BikCollected
collected_of a = record {
  refusal = (reason_of a.verdict).number;
  area = (reason_of a.verdict).area;
  index = (reason_of a.verdict).index;
  cells_kept = a.cells_kept;
  cells_dropped = a.cells_dropped;
  entries_kept = a.entries_kept;
  entries_dropped = a.entries_dropped;
}

-- What `bik_collect` promises of every image X and every lent work: an answer that `collect` may give with the areas Y and the work
-- words at exit, and r is its numbers.
pub record CollectsForC (X : Image) (work : List ℕ) (r : BikCollected) (Y : Image) (work' : List ℕ) : Type 0 where
  pub answer : Result Collected Refusal
  pub collects : Collects X work answer Y work'
  pub numbers : r ≡ collected_of (answer_of answer)

unfoldable pub stepped_of : StepAnswer → BikStepped
stepped_of a = record {
  refusal = (reason_of a.verdict).number;
  area = (reason_of a.verdict).area;
  index = (reason_of a.verdict).index;
  undone = a.undone;
}

-- What `bik_step_back` promises, in the same way.
pub record StepsBackForC (X : Image) (work : List ℕ) (r : BikStepped) (Y : Image) (work' : List ℕ) : Type 0 where
  pub answer : Result ℕ Refusal
  pub steps : StepsBack X work answer Y work'
  pub numbers : r ≡ stepped_of (step_answer_of answer)
