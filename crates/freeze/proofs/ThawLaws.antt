-- Laws of the reader: what it means that a file has passed, stage by stage, and its promise from the verdict. Assumes nothing.
use Prim.Native.Nat.{ℕ, ◌≤◌}
use mathlib.Core.Path.{◌≡◌, refl, sym, ap, ◌∙◌, subst}
use mathlib.Core.Bool.{Bool, true, false, ◌&&◌}
use mathlib.Core.List.{List}
use native.Mathlib.Omega.{arith}
use lib.ListN.{length}
use lib.Dec.{leb}
use borrow.Author.Tests.{le-leb, leb-true}
use Rattle.machine.specs.Layout.{Image}
use Rattle.machine.specs.Refusals.{legal_sizes}
use Rattle.freeze.specs.declared.AreaCounts.{AreaCounts}
use Rattle.std.specs.Prelude.{Result, Ok, Err}
use Rattle.freeze.specs.declared.FileRefusal.{FileRefusal}
use Rattle.freeze.specs.declared.FileRefusal.TheVariants.{Sizes, Room, After, Differ}
use Rattle.freeze.specs.Kinds.{COUNTS, CONTROL, STACK, HEAP, TRAIL, END}
use Rattle.freeze.specs.Verdicts.{FileVerdict, accepted, verdict_of, gate, first_of, if_accepted}
use Rattle.freeze.specs.Records.{records_verdict}
use Rattle.freeze.specs.Thaw.{lengths_of, within, counts_in, control_at, stack_at, heap_at, trail_at, end_at, past_end, image_in, agree, file_stages, thaw_verdict, no_counts, ThawAnswer, thaw_answer_of, thaw_answer, filled, Thaws}
use Rattle.freeze.proofs.VerdictLaws.{if_accepted-refusal, first_of-passed, first_passes, first-refuses, first-none, gate-passed, gate-passes, refusal-refuses}

pub both_true : (a b : Bool) → (a && b) ≡ true → (a ≡ true) × (b ≡ true)
both_true true b e = (refl, e)
both_true false b e = absurd (let z : ◌≡◌ {A = ℕ} 0 1 = cc in omega arith)

-- no count is above its room
pub record Within (n room : AreaCounts) : Type 0 where
  pub control : n.control ≤ room.control
  pub stack : n.stack ≤ room.stack
  pub heap : n.heap ≤ room.heap
  pub trail : n.trail ≤ room.trail

pub within_all : (n room : AreaCounts) → Within n room → within n room ≡ true
unfolding within
within_all n room w =
    simp (le-leb n.control room.control w.control, le-leb n.stack room.stack w.stack, le-leb n.heap room.heap w.heap, le-leb n.trail room.trail w.trail)

pub within-each : (n room : AreaCounts) → within n room ≡ true → Within n room
unfolding within
within-each n room e =
    let s = both_true _ _ e in
    let h = both_true _ _ s.1 in
    let t = both_true _ _ h.1 in
    record { control = leb-true _ _ s.0; stack = leb-true _ _ h.0; heap = leb-true _ _ t.0; trail = leb-true _ _ t.1 }

-- what each stage of an accepted file says, at the counts that it holds
pub record Passed (lent n : AreaCounts) (file : List ℕ) : Type 0 where
  pub counts : records_verdict file COUNTS 0 1 ≡ accepted
  pub room : within n lent ≡ true
  pub control : records_verdict file CONTROL control_at n.control ≡ accepted
  pub stack : records_verdict file STACK (stack_at n) n.stack ≡ accepted
  pub heap : records_verdict file HEAP (heap_at n) n.heap ≡ accepted
  pub trail : records_verdict file TRAIL (trail_at n) n.trail ≡ accepted
  pub end : records_verdict file END (end_at n) 1 ≡ accepted
  pub after : leb (length file) (past_end n) ≡ true
  pub agrees : agree n (image_in n file) ≡ true

pub file-passed : (room : AreaCounts) (file : List ℕ) → first_of (file_stages room file) ≡ accepted → Passed room (counts_in file) file
file-passed room file e =
    let a = first_of-passed _ _ e in
    let b = first_of-passed _ _ a.1 in
    let c = first_of-passed _ _ b.1 in
    let d = first_of-passed _ _ c.1 in
    let f = first_of-passed _ _ d.1 in
    let g = first_of-passed _ _ f.1 in
    let h = first_of-passed _ _ g.1 in
    let i = first_of-passed _ _ h.1 in
    let j = first_of-passed _ _ i.1 in
    record {
      counts = a.0;
      room = gate-passed _ Room b.0;
      control = c.0;
      stack = d.0;
      heap = f.0;
      trail = g.0;
      end = h.0;
      after = gate-passed _ (After _) i.0;
      agrees = gate-passed _ Differ j.0;
    }

pub passed-file : (room : AreaCounts) (file : List ℕ) → Passed room (counts_in file) file → first_of (file_stages room file) ≡ accepted
passed-file room file p =
    first_passes _ p.counts ∙ first_passes _ (gate-passes (verdict_of Room) p.room) ∙ first_passes _ p.control ∙ first_passes _ p.stack
    ∙ first_passes _ p.heap ∙ first_passes _ p.trail ∙ first_passes _ p.end ∙ first_passes _ (gate-passes (verdict_of (After _)) p.after)
    ∙ first_passes _ (gate-passes (verdict_of Differ) p.agrees) ∙ first-none

module _ (file : List ℕ) where
  pub answer-refused : {v : FileVerdict} (q : FileRefusal) → v ≡ verdict_of q → thaw_answer_of (Err q) ≡ thaw_answer v file
  unfolding thaw_answer_of thaw_answer
  answer-refused q e = simp (e, if_accepted-refusal {A = AreaCounts} q)

  pub answer-accepted : {v : FileVerdict} (n : AreaCounts) → v ≡ accepted → n ≡ counts_in file → thaw_answer_of (Ok n) ≡ thaw_answer v file
  unfolding thaw_answer_of thaw_answer if_accepted
  answer-accepted n e m = rw (e, m)

  pub refused-answer : {v : FileVerdict} (q : FileRefusal) → thaw_answer_of (Err q) ≡ thaw_answer v file → v ≡ verdict_of q
  unfolding thaw_answer_of thaw_answer
  refused-answer q e = sym (ap (λ (a : ThawAnswer). a.verdict) e)

  pub accepted-answer : {v : FileVerdict} (n : AreaCounts) → thaw_answer_of (Ok n) ≡ thaw_answer v file → (v ≡ accepted) × (n ≡ counts_in file)
  unfolding thaw_answer_of thaw_answer if_accepted
  accepted-answer {v} n e =
      let a : v ≡ accepted = sym (ap (λ (a : ThawAnswer). a.verdict) e) in
      (a, ap (λ (a : ThawAnswer). a.counts) e ∙ ap (λ (v : FileVerdict). if_accepted v (counts_in file) no_counts) a)

  -- an accepted answer has but one case
  pub answer-areas : (r : Result AreaCounts FileRefusal) → thaw_answer_of r ≡ thaw_answer accepted file → r ≡ Ok (counts_in file)
  unfolding thaw_answer_of thaw_answer if_accepted
  answer-areas (Ok n) e = ap Ok (ap (λ (a : ThawAnswer). a.counts) e)
  answer-areas (Err q) e = absurd (refusal-refuses q (ap (λ (a : ThawAnswer). a.verdict) e))

  module _ (lent : Image) where
    -- the sizes are legal, and the file itself decides
    pub legal-verdict : legal_sizes lent ≡ true → thaw_verdict lent file ≡ first_of (file_stages (lengths_of lent) file)
    unfolding thaw_verdict
    legal-verdict e = first_passes (file_stages (lengths_of lent) file) (ap (λ (b : Bool). gate b (verdict_of Sizes)) e)

    pub illegal-verdict : legal_sizes lent ≡ false → thaw_verdict lent file ≡ verdict_of Sizes
    unfolding thaw_verdict
    illegal-verdict e = first-refuses (file_stages (lengths_of lent) file) Sizes (ap (λ (b : Bool). gate b (verdict_of Sizes)) e)

    pub thaws-refused : (q : FileRefusal) → thaw_verdict lent file ≡ verdict_of q → Thaws file lent (Err q) lent
    thaws-refused q e = record {
      answer = answer-refused q e;
      areas = sym (ap (λ (v : FileVerdict). if_accepted v (filled lent (image_in (counts_in file) file)) lent) e ∙ if_accepted-refusal {A = Image} q _ _);
    }

    pub thaws-accepted : (n : AreaCounts) (left : Image) → thaw_verdict lent file ≡ accepted → n ≡ counts_in file → left ≡ filled lent (image_in n file) → Thaws file lent (Ok n) left
    unfolding if_accepted
    thaws-accepted n left e m f = record {
      answer = answer-accepted n e m;
      areas = f ∙ ap (λ (n : AreaCounts). filled lent (image_in n file)) m ∙ sym (ap (λ (v : FileVerdict). if_accepted v (filled lent (image_in (counts_in file) file)) lent) e);
    }

    -- what an accepted file leaves, and that its lent sizes were legal
    pub thaws-filled : (n : AreaCounts) (left : Image) → Thaws file lent (Ok n) left
        → (legal_sizes lent ≡ true) × (n ≡ counts_in file) × (Passed (lengths_of lent) n file) × (left ≡ filled lent (image_in n file))
    unfolding thaw_verdict if_accepted
    thaws-filled n left t =
        let a = accepted-answer n t.answer in
        let p = first_of-passed (gate (legal_sizes lent) (verdict_of Sizes)) (file_stages (lengths_of lent) file) a.0 in (
          gate-passed _ Sizes p.0,
          a.1,
          subst (λ (m : AreaCounts). Passed (lengths_of lent) m file) (sym a.1) (file-passed (lengths_of lent) file p.1),
          t.areas ∙ ap (λ (v : FileVerdict). if_accepted v (filled lent (image_in (counts_in file) file)) lent) a.0 ∙ ap (λ (m : AreaCounts). filled lent (image_in m file)) (sym a.1),
        )
