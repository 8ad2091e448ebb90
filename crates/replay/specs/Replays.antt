-- What running a schedule gives: each call does what its own contract says, and the first that is refused ends the run. Assumes nothing.
use Rattle.machine.specs.declared.Refusal.{Refusal}
use Rattle.std.specs.Prelude.{Result, Ok, Err}
use Rattle.std.specs.Prelude.{ℕ, zero, suc, ◌≤◌, ◌≡◌, ◌≢◌, Bool, true, false, List, [], ◌∷◌, length}
use Rattle.machine.specs.declared.Collected.{Collected}
use Rattle.machine.specs.Layout.{Image}
use Rattle.machine.specs.Refusals.{accepted, work_words, verdict, step_verdict}
use Rattle.machine.specs.Moved.{CollectedTo}
use Rattle.machine.specs.Readable.{readable}
use Rattle.machine.specs.Answers.{Collects, StepsBack}
use Rattle.promise.specs.Demand.{Accepts, Call, collecting, stepping, steps_in, Plain}

-- one byte a call: 0 collects, any other steps back
abbrev pub call_of : ℕ → Call
call_of zero = collecting
call_of (suc b) = stepping

abbrev pub calls_of : List ℕ → List Call
calls_of [] = []
calls_of (b ∷ bytes) = call_of b ∷ calls_of bytes

-- one call, by its byte, from the image X with its work words to the image Y with its own: it does what its own contract says, and
-- whether it is granted is whether its verdict accepts
pub data Calls : ℕ → Image → List ℕ → Bool → Image → List ℕ → Type 0 where
  collected : {X Y : Image} {work work' : List ℕ} {answer : Result Collected Refusal} → verdict (length work) X ≡ accepted → Collects X work answer Y work' → Calls 0 X work true Y work'
  not_collected : {X Y : Image} {work work' : List ℕ} {answer : Result Collected Refusal} → verdict (length work) X ≢ accepted → Collects X work answer Y work' → Calls 0 X work false Y work'
  stepped : {b : ℕ} {X Y : Image} {work work' : List ℕ} {answer : Result ℕ Refusal} → step_verdict (length work) X ≡ accepted → StepsBack X work answer Y work' → Calls (suc b) X work true Y work'
  not_stepped : {b : ℕ} {X Y : Image} {work work' : List ℕ} {answer : Result ℕ Refusal} → step_verdict (length work) X ≢ accepted → StepsBack X work answer Y work' → Calls (suc b) X work false Y work'

-- the calls from the one at i on, from the image X with its work words to the image Z with its own
pub data Replays : ℕ → Image → List ℕ → List ℕ → Result (Unit {0}) ℕ → Image → List ℕ → Type 0 where
  finished : {i : ℕ} {X : Image} {work : List ℕ} → Replays i X work [] (Ok tt) X work
  granted : {i b : ℕ} {X Y Z : Image} {work work' last : List ℕ} {bytes : List ℕ} {r : Result (Unit {0}) ℕ} → Calls b X work true Y work' → Replays (suc i) Y work' bytes r Z last → Replays i X work (b ∷ bytes) r Z last
  refused : {i b : ℕ} {X Y : Image} {work work' : List ℕ} {bytes : List ℕ} → Calls b X work false Y work' → Replays i X work (b ∷ bytes) (Err i) Y work'

-- Demand 3 of the entries: no call of such a schedule is refused, and what the engine can read is what plain steps and a collection give
pub record Kept (Y Z : Image) (r : Result (Unit {0}) ℕ) : Type 0 where
  pub none_refused : r ≡ (Ok tt)
  pub last_accepted : Accepts Y
  pub same : (Y' Z' : Image) → CollectedTo Y Y' → CollectedTo Z Z' → readable Y' ≡ readable Z'

abbrev pub Demand3Met : Type 0
Demand3Met = (X Y Z : Image) (k : ℕ) (bytes work last : List ℕ) (r : Result (Unit {0}) ℕ) → Plain X k Z → steps_in (calls_of bytes) ≡ k → work_words X ≤ length work → Replays 0 X work bytes r Y last → Kept Y Z r
