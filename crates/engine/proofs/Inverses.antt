-- Nothing is lost on the way to C: from the numbers of a collection or of a step back the library's answer can be read again, so no two
-- of its answers have the same numbers; and likewise what is said of a cell that is asked for. Assumes nothing.
use Rattle.std.specs.Prelude.{Result, Ok, Err, Option, Some, None}
use Prim.Native.Nat.{ℕ, zero, suc}
use mathlib.Core.Path.{◌≡◌, refl, sym, ap, ◌∙◌}
use mathlib.Core.Logic.{◌≢◌}
use Rattle.machine.specs.declared.Area.{Area}
use Rattle.machine.specs.declared.Area.TheVariants.{Heap, Stack, Control, Trail}
use Rattle.machine.specs.declared.Refusal.{Refusal}
use Rattle.machine.specs.declared.Refusal.TheVariants.{Sizes, Registers, Chain, Roles, Bits, Reference, Entry, First, NoChoicePoint, ControlShort}
use Rattle.machine.specs.declared.Collected.{Collected}
use Rattle.machine.specs.Refusals.{Where, nowhere, in_area, Verdict, accepted, refused}
use Rattle.machine.specs.Answers.{verdict_of, Answer, refusal, answer_of, StepAnswer, step_answer_of}
use Rattle.machine.proofs.Injective.{refusal-refuses, answer_of-injective, step_answer_of-injective}
use Rattle.holder.specs.declared.Held.{Held}
use Rattle.holder.specs.declared.Untold.{Untold}
use Rattle.holder.specs.declared.Untold.TheVariants as untold
use Rattle.holder.specs.Answers.{Said, held, dead, refusal as refusing, said_of}
use Rattle.engine.specs.declared.reasons.Reason.{Reason}
use Rattle.engine.specs.declared.BikCollected.{BikCollected}
use Rattle.engine.specs.declared.BikStepped.{BikStepped}
use Rattle.engine.specs.declared.BikHeld.{BikHeld}
use Rattle.engine.specs.Reasons.{area_number, reason_of}
use Rattle.engine.specs.Calls.{collected_of, stepped_of}
use Rattle.engine.specs.Why.{unheld, held_of}

-- the area of a number; for 0 any will do
abbrev area_by : ℕ → Area
area_by zero = Heap
area_by (suc zero) = Heap
area_by (suc (suc zero)) = Stack
area_by (suc (suc (suc zero))) = Control
area_by (suc (suc (suc (suc n)))) = Trail

abbrev place_by : ℕ → ℕ → Where
place_by zero i = nowhere
place_by (suc n) i = in_area (area_by (suc n)) i

abbrev verdict_at : ℕ → Where → Verdict
verdict_at zero place = accepted
verdict_at (suc n) place = refused (suc n) place

abbrev verdict_by : Reason → Verdict
verdict_by r = verdict_at r.number (place_by r.area r.index)

placed-inverse : (n : ℕ) (area : Area) (i : ℕ) → verdict_by (reason_of (refused (suc n) (in_area area i))) ≡ refused (suc n) (in_area area i)
placed-inverse n Heap i = refl
placed-inverse n Stack i = refl
placed-inverse n Control i = refl
placed-inverse n Trail i = refl

verdict-inverse : (r : Refusal) → verdict_by (reason_of (verdict_of r)) ≡ verdict_of r
unfolding verdict_of
verdict-inverse Sizes = refl
verdict-inverse Registers = refl
verdict-inverse (Chain p) = placed-inverse 2 p.area p.index
verdict-inverse (Roles p) = placed-inverse 3 p.area p.index
verdict-inverse (Bits p) = placed-inverse 4 p.area p.index
verdict-inverse (Reference p) = placed-inverse 5 p.area p.index
verdict-inverse (Entry p) = placed-inverse 6 p.area p.index
verdict-inverse (First p) = placed-inverse 16 p.area p.index
verdict-inverse NoChoicePoint = refl
verdict-inverse ControlShort = refl

abbrev answer_by : BikCollected → Answer
answer_by r = record {
  verdict = verdict_by (record { number = r.refusal; area = r.area; index = r.index });
  cells_kept = r.cells_kept;
  cells_dropped = r.cells_dropped;
  entries_kept = r.entries_kept;
  entries_dropped = r.entries_dropped;
}

answer-inverse : (a : Result Collected Refusal) → answer_by (collected_of (answer_of a)) ≡ answer_of a
unfolding collected_of answer_of
answer-inverse (Ok done) = refl
answer-inverse (Err r) = ap refusal (verdict-inverse r)

pub collected_of-injective : (a b : Result Collected Refusal) → collected_of (answer_of a) ≡ collected_of (answer_of b) → a ≡ b
collected_of-injective a b e = answer_of-injective a b (sym (answer-inverse a) ∙ ap answer_by e ∙ answer-inverse b)

abbrev step_answer_by : BikStepped → StepAnswer
step_answer_by r = record { verdict = verdict_by (record { number = r.refusal; area = r.area; index = r.index }); undone = r.undone }

step-inverse : (a : Result ℕ Refusal) → step_answer_by (stepped_of (step_answer_of a)) ≡ step_answer_of a
unfolding stepped_of step_answer_of
step-inverse (Ok n) = refl
step-inverse (Err r) = ap (λ (v : Verdict). record { verdict = v; undone = 0 }) (verdict-inverse r)

pub stepped_of-injective : (a b : Result ℕ Refusal) → stepped_of (step_answer_of a) ≡ stepped_of (step_answer_of b) → a ≡ b
stepped_of-injective a b e = step_answer_of-injective a b (sym (step-inverse a) ∙ ap step_answer_by e ∙ step-inverse b)

area-inverse : (a : Area) → area_by (area_number a) ≡ a
area-inverse Heap = refl
area-inverse Stack = refl
area-inverse Control = refl
area-inverse Trail = refl

abbrev root_by : ℕ → BikHeld → Said
root_by zero r = dead
root_by (suc n) r = held (area_by r.root_area) r.root_index r.length

abbrev said_as : Verdict → BikHeld → Said
said_as accepted r = root_by r.held r
said_as (refused number place) r = refusing (refused number place)

abbrev said_by : BikHeld → Said
said_by r = said_as (verdict_by (record { number = r.refusal; area = r.area; index = r.index })) r

refused-said : (v : Verdict) (r : BikHeld) → v ≢ accepted → said_as v r ≡ refusing v
refused-said accepted r n = absurd (n refl)
refused-said (refused number place) r n = refl

said-inverse : (a : Result (Option Held) Untold) → said_by (held_of (said_of a)) ≡ said_of a
unfolding held_of said_of
said-inverse (Ok (Some h)) = ap (λ (a : Area). held a h.root.index h.length) (area-inverse h.root.area)
said-inverse (Ok None) = refl
said-inverse (Err untold.NoCell) = refl
said-inverse (Err untold.RoomShort) = refl
said-inverse (Err (untold.Image r)) =
    ap (λ (v : Verdict). said_as v (unheld (reason_of (verdict_of r)))) (verdict-inverse r) ∙ refused-said (verdict_of r) (unheld (reason_of (verdict_of r))) (refusal-refuses r)

pub held_of-injective : (a b : Result (Option Held) Untold) → held_of (said_of a) ≡ held_of (said_of b) → said_of a ≡ said_of b
held_of-injective a b e = sym (said-inverse a) ∙ ap said_by e ∙ said-inverse b
