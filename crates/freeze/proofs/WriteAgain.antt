-- An accepted file is written again: it is the file of the words that it holds, and the areas that the reader leaves say its counts.
-- Assumes nothing.
use Prim.Native.Nat.{ℕ, ◌+◌, ◌≤◌, ◌<◌}
use mathlib.Core.Path.{◌≡◌, sym, ap, ◌∙◌}
use mathlib.Core.Bool.{true}
use mathlib.Core.List.{List, [], ◌∷◌, ◌++◌}
use native.Mathlib.Omega.{arith}
use native.Mathlib.Nat.{le_refl}
use native.Mathlib.Numerals.{add-one}
use lib.ListN.{length, get_or, take, drop, drop_of_length-le, get_or-append}
use lib.Seq.{drop-cons, take_at, take-take, length-take-le, length_front}
use borrow.Author.Tests.{le-leb, leb-true, eqb-true}
use Rattle.machine.specs.Layout.{Image, Field, T, H, N, place_of, fixed, field, reg}
use Rattle.machine.specs.Refusals.{legal_sizes, fits}
use Rattle.std.specs.Prelude.{Ok}
use Rattle.freeze.specs.declared.AreaCounts.{AreaCounts}
use Rattle.freeze.specs.Kinds.{COUNTS, CONTROL, STACK, HEAP, TRAIL, END, word_body, body_of, record_size}
use Rattle.freeze.specs.Verdicts.{accepted}
use Rattle.freeze.specs.Records.{records_verdict, number_at, words}
use Rattle.freeze.specs.Thaw.{counts_of, lengths_of, within, counts_in, control_at, stack_at, heap_at, trail_at, end_at, past_end, image_in, agree, front, filled}
use Rattle.freeze.specs.Freeze.{bytes_of, records, counts_record, file_of, frozen}
use Rattle.freeze.specs.RoundTrips.{Bytes, just_stack, ReadWritesAgain}
use Rattle.freeze.proofs.KindLaws.{control-word, stack-word, heap-word, trail-word, end_body}
use Rattle.freeze.proofs.RecordLaws.{passed-kind}
use Rattle.freeze.proofs.WordLaws.{length-words, records-passed}
use Rattle.freeze.proofs.ThawLaws.{both_true, within_all, within-each, Passed, thaws-filled}
use Rattle.freeze.proofs.FreezeLaws.{legal-each, legal-all, fits-within, freeze-accepted, freezes-written}
use Rattle.freeze.proofs.ByteLaws.{drop-word, written_as}

-- what the reader put in front of an area is its front, and the area keeps its length
module _ (area new : List ℕ) (n : ℕ) (l : length new ≡ n) (h : n ≤ length area) where
  front-words : take n (front area new) ≡ new
  front-words = take_at new (drop (length new) area) n l

  front_length : length (front area new) ≡ length area
  front_length = length_front area new (length new) (sym (length-take-le (length new) area (omega arith)))

module _ (file : List ℕ) (bytes : Bytes file) (n : AreaCounts) (own : n ≡ counts_in file) (room : AreaCounts) (p : Passed room n file) where
  -- one byte of kind
  drop-kind : (kind at : ℕ) → records_verdict file kind at 1 ≡ accepted → (drop at file ≡ kind ∷ drop (at + 1) file) × (at + record_size kind ≤ length file)
  drop-kind kind at e =
      let k = passed-kind file kind at (records-passed file kind at 0 e).0 in (
        drop-cons file at 0 (omega arith) ∙ ap (λ (i : ℕ). get_or file at 0 ∷ drop i file) (sym (add-one at)) ∙ ap (λ (x : ℕ). x ∷ drop (at + 1) file) k.0,
        k.1,
      )

  counts-again : file ≡ counts_record n ++ drop control_at file
  unfolding counts_record counts_in body_of
  counts-again =
      let k = drop-kind COUNTS 0 p.counts in
      let at : (i : ℕ) → i + word_body ≤ record_size COUNTS → drop i file ≡ bytes_of (number_at file i) ++ drop (i + word_body) file = λ i h. drop-word file i bytes (omega (arith, k.1)) in
      let whole : file ≡ counts_record (counts_in file) ++ drop control_at file =
      k.0 ∙ ap (λ (l : List ℕ). COUNTS ∷ l)
      (at 1 (omega arith) ∙ ap (λ (l : List ℕ). bytes_of (number_at file 1) ++ l)
      (at 5 (omega arith) ∙ ap (λ (l : List ℕ). bytes_of (number_at file 5) ++ l)
      (at 9 (omega arith) ∙ ap (λ (l : List ℕ). bytes_of (number_at file 9) ++ l) (at 13 (omega arith))))) in
      whole ∙ ap (λ (m : AreaCounts). counts_record m ++ drop control_at file) (sym own)

  end-again : drop (end_at n) file ≡ END ∷ []
  end-again =
      let k = drop-kind END (end_at n) p.end in
      k.0 ∙ ap (λ (l : List ℕ). END ∷ l) (drop_of_length-le file {i = end_at n + 1} (omega (arith, leb-true (length file) (past_end n) p.after, end_body)))

  -- the file of any areas whose fronts are the words of this one
  file-again : (Z : Image) → take n.control Z.control ≡ (image_in n file).control → take n.stack Z.stack ≡ (image_in n file).stack
      → take n.heap Z.heap ≡ (image_in n file).heap → take n.trail Z.trail ≡ (image_in n file).trail → file_of n Z ≡ file
  unfolding file_of image_in
  file-again Z c s h t =
      (λ i. counts_record n ++ (records CONTROL (c i) ++ (records STACK (s i) ++ (records HEAP (h i) ++ (records TRAIL (t i) ++ (END ∷ []))))))
      ∙ sym (counts-again ∙ ap (λ (l : List ℕ). counts_record n ++ l)
      (written_as file CONTROL control-word bytes control_at n.control p.control ∙ ap (λ (l : List ℕ). records CONTROL (words file CONTROL control_at n.control) ++ l)
      (written_as file STACK stack-word bytes (stack_at n) n.stack p.stack ∙ ap (λ (l : List ℕ). records STACK (words file STACK (stack_at n) n.stack) ++ l)
      (written_as file HEAP heap-word bytes (heap_at n) n.heap p.heap ∙ ap (λ (l : List ℕ). records HEAP (words file HEAP (heap_at n) n.heap) ++ l)
      (written_as file TRAIL trail-word bytes (trail_at n) n.trail p.trail ∙ ap (λ (l : List ℕ). records TRAIL (words file TRAIL (trail_at n) n.trail) ++ l) end-again)))))

  -- the counts that areas with this file's control words in front say
  field-front : (control lent : List ℕ) (f : Field) → control ≡ front lent (image_in n file).control → place_of f < n.control → field control 0 f ≡ reg (image_in n file) f
  unfolding field image_in
  field-front control lent f e h =
      let ws = words file CONTROL control_at n.control in
      ap (λ (l : List ℕ). get_or l (0 + place_of f) 0) e
      ∙ get_or-append ws (drop (length ws) lent) 0 (0 + place_of f) (omega (arith, length-words file CONTROL control_at n.control))

  pub counts_same : (Z : Image) (lent : List ℕ) → Z.control ≡ front lent (image_in n file).control → length Z.stack ≡ n.stack → counts_of Z ≡ n
  unfolding counts_of agree
  counts_same Z lent e s =
      let a = both_true _ _ p.agrees in
      let b = both_true _ _ a.1 in
      let c = both_true _ _ b.1 in
      let least : fixed ≤ n.control = leb-true fixed n.control a.0 in
      let control = eqb-true n.control (fixed + reg (image_in n file) N) b.0 in
      let heap = eqb-true n.heap (reg (image_in n file) H) c.0 in
      let trail = eqb-true n.trail (reg (image_in n file) T) c.1 in
      λ i. record {
        control = (ap (λ (x : ℕ). fixed + x) (field-front Z.control lent N e (omega arith)) ∙ sym control) i;
        stack = s i;
        heap = (field-front Z.control lent H e (omega arith) ∙ sym heap) i;
        trail = (field-front Z.control lent T e (omega arith) ∙ sym trail) i;
      }

-- "each accepted file is written again byte for byte when the writer is given just the counted front of the stack"
pub read-writes-again : ReadWritesAgain
unfolding filled image_in
read-writes-again file lent n areas output r left bytes t room f =
    let a = thaws-filled file lent n areas t in
    let p = a.2 in
    let w = within-each n (lengths_of lent) p.room in
    let sizes = legal-each lent a.0 in
    let Z = just_stack n.stack areas in
    let X = image_in n file in
    let lc = length-words file CONTROL control_at n.control in
    let ls = length-words file STACK (stack_at n) n.stack in
    let lh = length-words file HEAP (heap_at n) n.heap in
    let lt = length-words file TRAIL (trail_at n) n.trail in
    let ec : Z.control ≡ front lent.control X.control = ap (λ (Y : Image). Y.control) a.3 in
    let es : areas.stack ≡ front lent.stack X.stack = ap (λ (Y : Image). Y.stack) a.3 in
    let eh : Z.heap ≡ front lent.heap X.heap = ap (λ (Y : Image). Y.heap) a.3 in
    let et : Z.trail ≡ front lent.trail X.trail = ap (λ (Y : Image). Y.trail) a.3 in
    let nc : length Z.control ≡ length lent.control = ap length ec ∙ front_length lent.control X.control n.control lc w.control in
    let ns : length areas.stack ≡ length lent.stack = ap length es ∙ front_length lent.stack X.stack n.stack ls w.stack in
    let nh : length Z.heap ≡ length lent.heap = ap length eh ∙ front_length lent.heap X.heap n.heap lh w.heap in
    let nt : length Z.trail ≡ length lent.trail = ap length et ∙ front_length lent.trail X.trail n.trail lt w.trail in
    let nz : length Z.stack ≡ n.stack = length-take-le n.stack areas.stack (omega (arith, w.stack)) in
    let same = counts_same file bytes n a.1 (lengths_of lent) p Z lent.control ec nz in
    let again : frozen Z ≡ file = ap (λ (m : AreaCounts). file_of m Z) same
    ∙ file-again file bytes n a.1 (lengths_of lent) p Z
    (ap (take n.control) ec ∙ front-words lent.control X.control n.control lc w.control)
    (take-take n.stack n.stack areas.stack (le_refl n.stack) ∙ ap (take n.stack) es ∙ front-words lent.stack X.stack n.stack ls w.stack)
    (ap (take n.heap) eh ∙ front-words lent.heap X.heap n.heap lh w.heap)
    (ap (take n.trail) et ∙ front-words lent.trail X.trail n.trail lt w.trail) in
    let legal : legal_sizes Z ≡ true = legal-all Z (record {
      heap = omega (arith, nh, sizes.heap);
      stack = omega (arith, nz, w.stack, sizes.stack);
      trail = omega (arith, nt, sizes.trail);
      least = omega (arith, nc, sizes.least);
      most = omega (arith, nc, sizes.most);
    }) in
    let fit : fits Z ≡ true = fits-within Z ∙ ap (λ (m : AreaCounts). within m (lengths_of Z)) same ∙ within_all n (lengths_of Z) (record {
      control = omega (arith, nc, w.control);
      stack = omega (arith, nz);
      heap = omega (arith, nh, w.heap);
      trail = omega (arith, nt, w.trail);
    }) in
    let done = freezes-written Z output r left f (freeze-accepted Z output legal fit (le-leb (length (frozen Z)) (length output) (omega (arith, ap length again, room)))) in
    (done.0 ∙ ap (λ (l : List ℕ). Ok (length l)) again, done.1 ∙ ap (front output) again)
