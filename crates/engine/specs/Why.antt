-- What `bik_why_held` promises a caller in C: the library's promise, with the answer as numbers. Assumes nothing.
use Rattle.std.specs.Prelude.{ℕ, ◌≡◌, List}
use Rattle.machine.specs.Layout.{Image}
use Rattle.machine.specs.Refusals.{accepted}
use Rattle.std.specs.Prelude.{Result, Option}
use Rattle.holder.specs.declared.Held.{Held}
use Rattle.holder.specs.declared.Untold.{Untold}
use Rattle.holder.specs.Answers.{Said, held, dead, refusal, said_of, Explains}
use Rattle.engine.specs.declared.reasons.Reason.{Reason}
use Rattle.engine.specs.declared.BikHeld.{BikHeld}
use Rattle.engine.specs.Reasons.{area_number, reason_of}

-- a dead cell's numbers, or a refusal's: a reason, and no root
abbrev pub unheld : Reason → BikHeld
unheld r = record {
  refusal = r.number;
  area = r.area;
  index = r.index;
  held = 0;
  root_area = 0;
  root_index = 0;
  length = 0;
}

unfoldable pub held_of : Said → BikHeld
held_of (held area index length) = record {
  refusal = 0;
  area = 0;
  index = 0;
  held = 1;
  root_area = area_number area;
  root_index = index;
  length = length;
}
held_of dead = unheld (reason_of accepted)
held_of (refusal v) = unheld (reason_of v)

-- What `bik_why_held` promises of every image X, lent work, cell x and lent room: an answer that `why_held` may give with the work words
-- and the room at exit, and r is its numbers.
pub record ExplainsForC (X : Image) (work : List ℕ) (x : ℕ) (room : List ℕ) (r : BikHeld) (work' room' : List ℕ) : Type 0 where
  pub answer : Result (Option Held) Untold
  pub explains : Explains X work x room answer work' room'
  pub numbers : r ≡ held_of (said_of answer)
