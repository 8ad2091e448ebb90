-- Laws of the writer: how long a file is, what legal sizes and counts that fit say, and the writer's promise from its verdict.
-- Assumes nothing.
use Prim.Native.Nat.{ℕ, ◌+◌, ◌*◌, ◌≤◌}
use mathlib.Core.Path.{◌≡◌, refl, sym, ap, ◌∙◌}
use mathlib.Core.Bool.{Bool, true, false, ◌&&◌}
use mathlib.Core.List.{List}
use native.Mathlib.Omega.{arith}
use native.Mathlib.Nat.{le_refl}
use lib.ListN.{length, take, length-append}
use lib.Dec.{leb}
use lib.Seq.{length-take-le}
use borrow.Author.Tests.{le-leb, leb-true}
use Rattle.machine.specs.Layout.{Image, T, H, N, fixed, reg, heap_most, stack_most, trail_most, arguments_most}
use Rattle.machine.specs.Refusals.{legal_sizes, fits}
use Rattle.freeze.specs.declared.AreaCounts.{AreaCounts}
use Rattle.std.specs.Prelude.{Result, Ok, Err}
use Rattle.freeze.specs.declared.FileRefusal.{FileRefusal}
use Rattle.freeze.specs.declared.FileRefusal.TheVariants.{Sizes, Registers, Output}
use Rattle.freeze.specs.Kinds.{COUNTS, CONTROL, STACK, HEAP, TRAIL, word_body, body_of, record_size, past}
use Rattle.freeze.specs.Verdicts.{FileVerdict, accepted, verdict_of, gate, if_accepted}
use Rattle.freeze.specs.Thaw.{counts_of, lengths_of, within, past_end, front}
use Rattle.freeze.specs.Freeze.{records, counts_record, file_of, frozen, freeze_verdict, FreezeAnswer, freeze_answer_of, freeze_answer, Freezes}
use Rattle.freeze.specs.Parts.{Small, Writes}
use Rattle.freeze.proofs.KindLaws.{end_body, file-size}
use Rattle.freeze.proofs.VerdictLaws.{if_accepted-refusal, first-refuses, first_passes, first-none, first_of-passed, gate-passes, gate-passed, gate-fails, refusal-refuses}
use Rattle.freeze.proofs.ThawLaws.{both_true, Within}
use Rattle.freeze.proofs.WriteLaws.{length-records, word-past}

pub length-counts : (n : AreaCounts) → length (counts_record n) ≡ record_size COUNTS
unfolding counts_record body_of
length-counts n = refl

-- the records of an area's first n words
pub length-area : (kind n : ℕ) (area : List ℕ) → n ≤ length area → length (records kind (take n area)) ≡ n * (1 + word_body)
length-area kind n area h = length-records kind (take n area) ∙ ap (λ (k : ℕ). k * (1 + word_body)) (length-take-le n area h)

-- where the records after an area's go
pub area-next : (kind n : ℕ) (area : List ℕ) {output : List ℕ} {at at' : ℕ} {r : ℕ} {left : List ℕ} → n ≤ length area → body_of kind ≡ word_body
    → Writes output at (records kind (take n area)) r left → at ≡ at' → r ≡ past at' kind n
area-next kind n area {output} {at} {at'} h word w e = omega (arith, w.next, length-area kind n area h, word-past at' kind n word)

pub length-file : (n : AreaCounts) (X : Image) → Within n (lengths_of X) → length (file_of n X) ≡ past_end n
unfolding file_of
length-file n X w =
    simp (
      length-append,
      length-counts,
      length-area CONTROL n.control X.control w.control,
      length-area STACK n.stack X.stack w.stack,
      length-area HEAP n.heap X.heap w.heap,
      length-area TRAIL n.trail X.trail w.trail,
    )
    (omega (arith, file-size n, end_body))

-- legal sizes, one by one
pub record Legal (X : Image) : Type 0 where
  pub heap : length X.heap ≤ heap_most
  pub stack : length X.stack ≤ stack_most
  pub trail : length X.trail ≤ trail_most
  pub least : fixed ≤ length X.control
  pub most : length X.control ≤ fixed + arguments_most

pub legal-each : (X : Image) → legal_sizes X ≡ true → Legal X
unfolding legal_sizes
legal-each X e =
    let s = both_true _ _ e in
    let t = both_true _ _ s.1 in
    let l = both_true _ _ t.1 in
    let m = both_true _ _ l.1 in
    record { heap = leb-true _ _ s.0; stack = leb-true _ _ t.0; trail = leb-true _ _ l.0; least = leb-true _ _ m.0; most = leb-true _ _ m.1 }

pub legal-all : (X : Image) → Legal X → legal_sizes X ≡ true
unfolding legal_sizes
legal-all X l =
    simp (
      le-leb (length X.heap) heap_most l.heap,
      le-leb (length X.stack) stack_most l.stack,
      le-leb (length X.trail) trail_most l.trail,
      le-leb fixed (length X.control) l.least,
      le-leb (length X.control) (fixed + arguments_most) l.most,
    )

pub small-counts : (X : Image) (n : AreaCounts) → Legal X → Within n (lengths_of X) → Small n
small-counts X n l w = record { control = omega arith; stack = omega arith; heap = omega arith; trail = omega arith }

turned : (a b c : Bool) → (a && (b && c)) ≡ (c && (true && (b && a)))
turned true true true = refl
turned true true false = refl
turned true false true = refl
turned true false false = refl
turned false true true = refl
turned false true false = refl
turned false false true = refl
turned false false false = refl

-- 2 is refused exactly where a count is above its area
pub fits-within : (X : Image) → fits X ≡ within (counts_of X) (lengths_of X)
unfolding fits within counts_of
fits-within X = rw (le-leb (length X.stack) (length X.stack) (le_refl (length X.stack))) (turned (leb (reg X T) (length X.trail)) (leb (reg X H) (length X.heap)) (leb (fixed + reg X N) (length X.control)))

module _ (X : Image) (output : List ℕ) where
  pub sizes-refused : legal_sizes X ≡ false → freeze_verdict X output ≡ verdict_of Sizes
  unfolding freeze_verdict
  sizes-refused e = first-refuses _ Sizes (gate-fails (verdict_of Sizes) e)

  pub registers-refused : legal_sizes X ≡ true → fits X ≡ false → freeze_verdict X output ≡ verdict_of Registers
  unfolding freeze_verdict
  registers-refused e f = first_passes _ (gate-passes (verdict_of Sizes) e) ∙ first-refuses _ Registers (gate-fails (verdict_of Registers) f)

  pub output-refused : legal_sizes X ≡ true → fits X ≡ true → leb (length (frozen X)) (length output) ≡ false → freeze_verdict X output ≡ verdict_of Output
  unfolding freeze_verdict
  output-refused e f g =
      first_passes _ (gate-passes (verdict_of Sizes) e) ∙ first_passes _ (gate-passes (verdict_of Registers) f) ∙ first-refuses _ Output (gate-fails (verdict_of Output) g)

  pub freeze-accepted : legal_sizes X ≡ true → fits X ≡ true → leb (length (frozen X)) (length output) ≡ true → freeze_verdict X output ≡ accepted
  unfolding freeze_verdict
  freeze-accepted e f g =
      first_passes _ (gate-passes (verdict_of Sizes) e) ∙ first_passes _ (gate-passes (verdict_of Registers) f) ∙ first_passes _ (gate-passes (verdict_of Output) g)
      ∙ first-none

  pub freezes-refused : (q : FileRefusal) → freeze_verdict X output ≡ verdict_of q → Freezes X output (Err q) output
  unfolding freeze_answer_of freeze_answer
  freezes-refused q e = record {
    answer = simp (e, if_accepted-refusal {A = ℕ} q);
    bytes = sym (ap (λ (v : FileVerdict). if_accepted v (front output (frozen X)) output) e ∙ if_accepted-refusal {A = List ℕ} q _ _);
  }

  pub freezes-accepted : (n : ℕ) (left : List ℕ) → freeze_verdict X output ≡ accepted → n ≡ length (frozen X) → left ≡ front output (frozen X) → Freezes X output (Ok n) left
  unfolding freeze_answer_of freeze_answer if_accepted
  freezes-accepted n left e m f = record {
    answer = rw (e, m);
    bytes = f ∙ sym (ap (λ (v : FileVerdict). if_accepted v (front output (frozen X)) output) e);
  }

  -- an accepted answer has but one case
  answer-bytes : (r : Result ℕ FileRefusal) → freeze_answer_of r ≡ freeze_answer accepted X → r ≡ Ok (length (frozen X))
  unfolding freeze_answer_of freeze_answer if_accepted
  answer-bytes (Ok n) e = ap Ok (ap (λ (a : FreezeAnswer). a.bytes) e)
  answer-bytes (Err q) e = absurd (refusal-refuses q (ap (λ (a : FreezeAnswer). a.verdict) e))

  pub freezes-written : (r : Result ℕ FileRefusal) (left : List ℕ) → Freezes X output r left → freeze_verdict X output ≡ accepted → (r ≡ Ok (length (frozen X))) × (left ≡ front output (frozen X))
  unfolding if_accepted
  freezes-written r left f e =
      (answer-bytes r (f.answer ∙ ap (λ (v : FileVerdict). freeze_answer v X) e), f.bytes ∙ ap (λ (v : FileVerdict). if_accepted v (front output (frozen X)) output) e)

  -- what an answer with a byte count says
  pub bytes-written : (n : ℕ) (left : List ℕ) → Freezes X output (Ok n) left
      → (legal_sizes X ≡ true) × (fits X ≡ true) × (n ≡ length (frozen X)) × (left ≡ front output (frozen X))
  unfolding freeze_answer_of freeze_answer freeze_verdict if_accepted
  bytes-written n left f =
      let v : freeze_verdict X output ≡ accepted = sym (ap (λ (a : FreezeAnswer). a.verdict) f.answer) in
      let p = first_of-passed (gate (legal_sizes X) (verdict_of Sizes)) _ v in
      let q = first_of-passed (gate (fits X) (verdict_of Registers)) _ p.1 in (
        gate-passed _ Sizes p.0,
        gate-passed _ Registers q.0,
        ap (λ (a : FreezeAnswer). a.bytes) f.answer ∙ ap (λ (v : FileVerdict). if_accepted v (length (frozen X)) 0) v,
        f.bytes ∙ ap (λ (v : FileVerdict). if_accepted v (front output (frozen X)) output) v,
      )
