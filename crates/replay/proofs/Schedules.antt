-- Demand 3 of the entries `collect` and `step_back`, by their contracts alone: what they do in a schedule is a run of that schedule, so the
-- theorem on runs says that no call is refused and what can be read at the end. Assumes nothing.
use Rattle.std.specs.Prelude.{Result}
use Prim.Native.Nat.{ℕ, zero, suc, ◌+◌, ◌≤◌, ◌<◌}
use mathlib.Core.Path.{◌≡◌, refl, sym, ap, ◌∙◌, subst}
use mathlib.Core.Bool.{Bool, true, false}
use mathlib.Core.List.{List, [], ◌∷◌, ◌++◌}
use native.Mathlib.Omega.{arith}
use lib.ListN.{length, length-append, length-replicate, length-drop, replicate, drop}
use Rattle.machine.specs.Layout.{Image}
use Rattle.machine.specs.Refusals.{work_words, enough}
use Rattle.machine.specs.Moved.{CollectedTo}
use Rattle.machine.specs.Stepped.{stepped}
use Rattle.machine.specs.Answers.{work_after, pick_words}
use Rattle.machine.proofs.Accepted.{Accepted, Granted}
use Rattle.machine.proofs.Verdicts.{verdict-accepted, step-iff}
use Rattle.machine.proofs.Steps.{stepped-steps, Steps}
use Rattle.promise.specs.Demand.{Call, collecting, stepping, steps_in, Accepts, Grants, Plain, last, back, Run, stop, collect, step, NoneRefused}
use Rattle.promise.proofs.Promise.{demand3}
use Rattle.promise.proofs.Collecting.{collected-reads}
use Rattle.replay.specs.Replays.{calls_of, collected, not_collected, not_stepped, Replays, finished, granted, refused, Kept, Demand3Met}
use Rattle.replay.specs.Replays as replays

-- ---- plain steps

-- the first j of the plain steps
plain-front : (j : ℕ) {X Z : Image} {k : ℕ} → Plain X k Z → j ≤ k → (W : Image) × Plain X j W
plain-front zero (last {X = X} a) l = (X, last a)
plain-front zero (back {X = X} a g p) l = (X, last a)
plain-front (suc j) (last a) l = absurd (omega arith)
plain-front (suc j) (back a g p) l = let r = plain-front j p (omega arith) in (r.0, back a g r.1)

steps-append : (cs ds : List Call) → steps_in (cs ++ ds) ≡ steps_in cs + steps_in ds
unfolding steps_in
steps-append [] ds = omega arith
steps-append (collecting ∷ cs) ds = steps-append cs ds
steps-append (stepping ∷ cs) ds = omega (arith, steps-append cs ds)

-- ---- one call more at the end of a run

run-collect : {X Y Z : Image} {cs : List Call} → Run X cs Y → CollectedTo Y Z → Run X (cs ++ (collecting ∷ [])) Z
run-collect stop c = collect c stop
run-collect (collect d r) c = collect d (run-collect r c)
run-collect (step r) c = step (run-collect r c)

run_step : {X Y : Image} {cs : List Call} → Run X cs Y → Run X (cs ++ (stepping ∷ [])) (stepped Y)
run_step stop = step stop
run_step (collect d r) = collect d (run_step r)
run_step (step r) = step (run_step r)

step-granted : {X Y : Image} {cs : List Call} (r : Run X cs Y) → NoneRefused (run_step r) → Grants Y
unfolding run_step
step-granted stop n = n.0
step-granted (collect d r) n = step-granted r n.1
step-granted (step r) n = step-granted r n.1

-- ---- the work that is lent goes on to suffice

cleared-length : (X : Image) (work : List ℕ) → work_words X ≤ length work → length (work_after X work) ≡ length work
unfolding work_after
cleared-length X work l = picked (enough (length work) X)
  where
    picked : (b : Bool) → length (pick_words b (replicate (work_words X) 0 ++ drop (work_words X) work) work) ≡ length work
    picked true = simp (length-append, length-replicate {A = ℕ} (work_words X) 0, length-drop) (omega arith)
    picked false = refl

collected-room : {X Y : Image} → Accepted X → CollectedTo X Y → work_words Y ≡ work_words X
collected-room a c = let r = collected-reads a c in omega (arith, r.heap-length, r.stack-length)

stepped-room : {X Y : Image} → Granted X → Y ≡ stepped X → work_words Y ≡ work_words X
stepped-room {X} g e = let r = subst (λ (Z : Image). Steps X Z) (sym e) (stepped-steps X g) in omega (arith, r.heap-length, r.stack-length)

-- ---- the theorem

module _ {X Z : Image} {k : ℕ} (p : Plain X k Z) where
  -- after a run with no more steps than the plain one the state is accepted
  state-accepted : {W : Image} {cs : List Call} → Run X cs W → steps_in cs ≤ k → Accepts W
  state-accepted {W} {cs} r l = let q = plain-front (steps_in cs) p l in (demand3 X W q.0 (steps_in cs) cs q.1 refl r).last_accepted

  step-taken : {W : Image} {cs : List Call} → Run X cs W → steps_in cs < k → Grants W
  unfolding steps_in
  step-taken {W} {cs} r l =
      let e : steps_in (cs ++ (stepping ∷ [])) ≡ suc (steps_in cs) = steps-append cs (stepping ∷ []) ∙ omega arith in
      let q = plain-front (steps_in (cs ++ (stepping ∷ []))) p (omega (arith, e)) in
      step-granted r (demand3 X (stepped W) q.0 (steps_in (cs ++ (stepping ∷ []))) (cs ++ (stepping ∷ [])) q.1 refl (run_step r)).none_refused

  along : {W Y : Image} {cs : List Call} → Run X cs W → {i : ℕ} {work bytes final : List ℕ} {r : Result (Unit {0}) ℕ} → work_words W ≤ length work → steps_in cs + steps_in (calls_of bytes) ≡ k → Replays i W work bytes r Y final → Kept Y Z r
  unfolding steps_in
  along {W} {cs = cs} run room e finished =
      record { none_refused = refl; last_accepted = (demand3 X W Z k cs p (omega arith) run).last_accepted; same = (demand3 X W Z k cs p (omega arith) run).same }
  along {W} {cs = cs} run room e (granted {work = work} {work' = work'} {bytes = bytes} (collected v c) rest) =
      let to = (c.collected v).0 in
      let a = (verdict-accepted (length work) W v).0 in
      let l : length work' ≡ length work = ap length c.cleared ∙ cleared-length W work room in
      along (run-collect run to) (omega (arith, l, collected-room a to)) (ap (λ (n : ℕ). n + steps_in (calls_of bytes)) (steps-append cs (collecting ∷ [])) ∙ omega (arith, e)) rest
  along {W} {cs = cs} run room e (granted {work = work} {work' = work'} {bytes = bytes} (replays.stepped v c) rest) =
      let q = (c.granted v).1 in
      let g = ((step-iff (length work) W).0 v).2 in
      let l : length work' ≡ length work = ap length c.cleared ∙ cleared-length W work room in
      along (subst (λ (S : Image). Run X (cs ++ (stepping ∷ [])) S) (sym q) (run_step run)) (omega (arith, l, stepped-room g q)) (ap (λ (n : ℕ). n + steps_in (calls_of bytes)) (steps-append cs (stepping ∷ [])) ∙ omega (arith, e)) rest
  along {W} {cs = cs} run {work = work} room e (refused (not_collected n c)) = absurd (n (state-accepted run (omega arith) (length work) room))
  along {W} {cs = cs} run {work = work} room e (refused (not_stepped n c)) = absurd (n (step-taken run (omega arith) (length work) room))

pub demand3-met : Demand3Met
unfolding steps_in
demand3-met X Y Z k bytes work final r p e room t = along p stop room (omega arith) t
