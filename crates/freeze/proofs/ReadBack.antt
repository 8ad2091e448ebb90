-- A written state reads back: each stage of the reader passes on the file of a state that fits, and what it finds are the counts and
-- the words of that state. Assumes nothing.
use Prim.Native.Nat.{ℕ, zero, suc, ◌+◌, ◌≤◌, ◌<◌}
use mathlib.Core.Path.{◌≡◌, refl, sym, ap, ◌∙◌, subst}
use mathlib.Core.Bool.{true}
use mathlib.Core.List.{List, [], ◌∷◌, ◌++◌}
use native.Mathlib.Omega.{arith}
use native.Mathlib.Nat.{le_of_eq}
use lib.ListN.{length, get_or, take, drop}
use lib.Dec.{eqb}
use lib.Seq.{get_or-take, length-take-le, take-append_seam}
use borrow.Author.Tests.{le-leb, eq-eqb}
use Rattle.machine.specs.Layout.{Image, Field, T, H, N, place_of, fixed, field, reg}
use Rattle.std.specs.Prelude.{Ok}
use Rattle.freeze.specs.declared.AreaCounts.{AreaCounts}
use Rattle.freeze.specs.Kinds.{COUNTS, CONTROL, STACK, HEAP, TRAIL, END, word_body, body_of, record_size, past}
use Rattle.freeze.specs.Verdicts.{FileVerdict, accepted, if_accepted}
use Rattle.freeze.specs.Records.{kind_at, records_verdict, number_at, words}
use Rattle.freeze.specs.Thaw.{counts_of, lengths_of, within, counts_in, control_at, stack_at, heap_at, trail_at, end_at, past_end, image_in, agree, thaw_verdict, thaw_answer, filled, Thaws}
use Rattle.freeze.specs.Freeze.{records, counts_record, file_of, frozen}
use Rattle.freeze.specs.RoundTrips.{Words, WordImage, counted, WrittenReadsBack}
use Rattle.freeze.proofs.KindLaws.{control-word, stack-word, heap-word, trail-word}
use Rattle.freeze.proofs.RecordLaws.{record-whole}
use Rattle.freeze.proofs.WordLaws.{records-join}
use Rattle.freeze.proofs.ThawLaws.{Within, within-each, Passed, passed-file, legal-verdict, answer-areas}
use Rattle.freeze.proofs.FreezeLaws.{length-file, Legal, legal-each, small-counts, fits-within, bytes-written}
use Rattle.freeze.proofs.ByteLaws.{number-of-bytes, from_at, read_as}

-- a front of words is words
words_take : (n : ℕ) (l : List ℕ) → Words l → Words (take n l)
words_take zero l small i = omega arith
words_take (suc n) [] small i = omega arith
words_take (suc n) (x ∷ l) small zero = small 0
words_take (suc n) (x ∷ l) small (suc i) = words_take n l (λ k. small (suc k)) i

-- the records of an area's first n words, read where they stand
record AreaRead (file : List ℕ) (kind at n : ℕ) (area rest : List ℕ) : Type 0 where
  verdict : records_verdict file kind at n ≡ accepted
  same : words file kind at n ≡ take n area
  further : drop (past at kind n) file ≡ rest

read-area : (file : List ℕ) (kind at n : ℕ) (area rest : List ℕ) → body_of kind ≡ word_body → n ≤ length area → Words area → drop at file ≡ records kind (take n area) ++ rest
    → AreaRead file kind at n area rest
read-area file kind at n area rest word h small e =
    let r = read_as file kind word at (take n area) rest (words_take n area small) e in
    let l = length-take-le n area h in
    record {
      verdict = ap (records_verdict file kind at) (sym l) ∙ r.verdict;
      same = ap (words file kind at) (sym l) ∙ r.same;
      further = ap (λ (k : ℕ). drop (past at kind k) file) (sym l) ∙ r.further;
    }

module _ (X : Image) (small : WordImage X) (legal : Legal X) (w : Within (counts_of X) (lengths_of X)) where
  abbrev n : AreaCounts
  n = counts_of X

  abbrev file : List ℕ
  file = frozen X

  -- the counts record
  counts-read : counts_in file ≡ n
  unfolding counts_in number_at file_of counts_record
  counts-read =
      let s = small-counts X n legal w in
      λ i. record {
        control = number-of-bytes n.control s.control i;
        stack = number-of-bytes n.stack s.stack i;
        heap = number-of-bytes n.heap s.heap i;
        trail = number-of-bytes n.trail s.trail i;
      }

  abbrev after-trail : List ℕ
  after-trail = END ∷ []

  abbrev after-heap : List ℕ
  after-heap = records TRAIL (take n.trail X.trail) ++ after-trail

  abbrev after-stack : List ℕ
  after-stack = records HEAP (take n.heap X.heap) ++ after-heap

  abbrev after-control : List ℕ
  after-control = records STACK (take n.stack X.stack) ++ after-stack

  control-read : AreaRead file CONTROL control_at n.control X.control after-control
  unfolding file_of counts_record body_of
  control-read = read-area file CONTROL control_at n.control X.control after-control control-word w.control small.control refl

  stack-read : AreaRead file STACK (stack_at n) n.stack X.stack after-stack
  stack-read = read-area file STACK (stack_at n) n.stack X.stack after-stack stack-word w.stack small.stack control-read.further

  heap-read : AreaRead file HEAP (heap_at n) n.heap X.heap after-heap
  heap-read = read-area file HEAP (heap_at n) n.heap X.heap after-heap heap-word w.heap small.heap stack-read.further

  trail-read : AreaRead file TRAIL (trail_at n) n.trail X.trail after-trail
  trail-read = read-area file TRAIL (trail_at n) n.trail X.trail after-trail trail-word w.trail small.trail heap-read.further

  -- a record whose kind stands at an offset and whose bytes are in the file
  one-read : (kind at : ℕ) → kind_at file at ≡ kind → at + record_size kind ≤ length file → records_verdict file kind at 1 ≡ accepted
  unfolding records_verdict
  one-read kind at k h = records-join file kind at 0 (record-whole (λ k. eqb k kind) file at (eq-eqb _ _ k) (omega (arith, ap record_size k))) refl

  counts-passed : records_verdict file COUNTS 0 1 ≡ accepted
  unfolding file_of counts_record
  counts-passed = one-read COUNTS 0 refl (omega (arith, length-file n X w))

  end-passed : records_verdict file END (end_at n) 1 ≡ accepted
  end-passed = one-read END (end_at n) (ap (λ (i : ℕ). get_or file i 0) (let e : end_at n ≡ end_at n + 0 = omega arith in e) ∙ from_at file after-trail (end_at n) 0 trail-read.further) (omega (arith, length-file n X w))

  image-read : image_in n file ≡ counted n X
  unfolding image_in
  image-read = λ i. record { control = control-read.same i; stack = stack-read.same i; heap = heap-read.same i; trail = trail-read.same i }

  -- the counted words say the same counts
  counted-field : (f : Field) → place_of f < n.control → reg (counted n X) f ≡ reg X f
  unfolding field
  counted-field f h = get_or-take n.control X.control (0 + place_of f) 0 (omega arith)

  agrees : agree n (counted n X) ≡ true
  unfolding agree counts_of
  agrees =
      let least : fixed ≤ n.control = omega arith in
      simp (
        le-leb fixed (fixed + reg X N) (omega arith),
        counted-field N (omega arith),
        counted-field H (omega arith),
        counted-field T (omega arith),
        eq-eqb (fixed + reg X N) (fixed + reg X N) refl,
        eq-eqb (reg X H) (reg X H) refl,
        eq-eqb (reg X T) (reg X T) refl,
      )

  file-reads : (lent : Image) → within n (lengths_of lent) ≡ true → Passed (lengths_of lent) n file
  file-reads lent room = record {
    counts = counts-passed;
    room = room;
    control = control-read.verdict;
    stack = stack-read.verdict;
    heap = heap-read.verdict;
    trail = trail-read.verdict;
    end = end-passed;
    after = le-leb (length file) (past_end n) (le_of_eq (length-file n X w));
    agrees = ap (agree n) image-read ∙ agrees;
  }

-- "each written state reads back into areas of legal size with room for its counts"
pub written-reads-back : WrittenReadsBack
unfolding if_accepted
written-reads-back X lent output left n r areas small f legal room t =
    let b = bytes-written X output n left f in
    let e : take n left ≡ frozen X = ap (λ (k : ℕ). take k left) b.2 ∙ ap (take (length (frozen X))) b.3 ∙ take-append_seam (frozen X) (drop (length (frozen X)) output) in
    let t' = subst (λ (l : List ℕ). Thaws l lent r areas) e t in
    let sizes = legal-each X b.0 in
    let w = within-each (counts_of X) (lengths_of X) (sym (fits-within X) ∙ b.1) in
    let same = counts-read X small sizes w in
    let v : thaw_verdict lent (frozen X) ≡ accepted =
    legal-verdict (frozen X) lent legal
    ∙ passed-file (lengths_of lent) (frozen X) (subst (λ (m : AreaCounts). Passed (lengths_of lent) m (frozen X)) (sym same) (file-reads X small sizes w lent room)) in (
      answer-areas (frozen X) r (t'.answer ∙ ap (λ (v : FileVerdict). thaw_answer v (frozen X)) v) ∙ ap Ok same,
      t'.areas ∙ ap (λ (v : FileVerdict). if_accepted v (filled lent (image_in (counts_in (frozen X)) (frozen X))) lent) v
          ∙ ap (λ (m : AreaCounts). filled lent (image_in m (frozen X))) same ∙ ap (filled lent) (image-read X small sizes w),
    )
