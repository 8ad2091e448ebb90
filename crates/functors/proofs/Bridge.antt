-- From the words with their notes to the image: where the notes are right the flagged cells are its first cells, and each test of the code
-- agrees with the table's test at every index that it is asked of. The work words are the same in the end. Assumes nothing.
use Prim.Native.Nat.{ℕ, ◌+◌, ◌-◌, ◌≤◌, ◌<◌}
use mathlib.Core.Path.{◌≡◌, sym, ap, ◌∙◌}
use mathlib.Core.Logic.{inl, inr}
use mathlib.Core.Bool.{Bool, false, ◌&&◌, ◌||◌}
use mathlib.Core.List.{List, ◌++◌}
use native.Mathlib.Omega.{arith}
use borrow.Author.Tests.{ltb-true}
use lib.ListN.{length, get_or, take, drop, replicate, length-replicate, get_or-replicate, take-append-drop}
use lib.Seq.{get_or-take, ext_get_or, length-take-le}
use Rattle.cell.specs.Word.{value_of, stack_base, in_heap, extent}
use Rattle.machine.specs.Layout.{Image, H, N, T, reg, argument, word}
use Rattle.machine.specs.Roles.{is_cell}
use Rattle.machine.specs.Refusals.{accepted, first_of, struct_to, some_of, is_first, covers_from, on_first, entry_on_first, first_checks}
use Rattle.machine.proofs.Tests.{either, and-unless}
use Rattle.machine.proofs.Firsts.{scan-same, scan-passes, all_first}
use Rattle.machine.proofs.FirstCells.{of_none, covers}
use Rattle.machine.proofs.Parts.{rest_at}
use Rattle.cells.specs.Cells.{notes_cell, Right}
use Rattle.functors.specs.Functors.{heap_to, stack_to, control_to, any_to, first_in, covers_in, covers_heap, covers_stack, covers_control, entry_in, covered_checks, Within, Contained, Entered}
use Rattle.functors.proofs.Some.{some_same}

-- ---- notes behind h

-- right notes stay right where only words below h change
pub right-after : {X : Image} {work : List ℕ} {notes : ℕ} → Right X work notes → (h : ℕ) → h ≤ notes → (work' : List ℕ) → drop h work' ≡ drop h work → length work' ≡ length work → Right X work' notes
right-after {X} {work} {notes} r h b work' d l = record {
  room = omega (arith, r.room);
  cells = λ i m. rw (rest_at h work' work d (notes + i) (omega arith)) (r.cells i m);
  fields = λ i m. rw (rest_at h work' work d (notes + i) (omega arith)) (r.fields i m);
  inside = r.inside;
}

-- ---- first cells

module _ (X : Image) {work : List ℕ} {notes : ℕ} (r : Right X work notes) where
  pub firsts_same : (x : ℕ) → first_in X work notes x ≡ is_first X x
  unfolding first_in any_to heap_to stack_to control_to is_first word
  firsts_same x =
      ap (λ (b : Bool). some_of (λ i. struct_to (get_or X.heap i 0) x) 0 (reg X H) || (b || some_of (λ i. struct_to (argument X.control 0 i) x) 0 (reg X N)))
      (some_same _ _ 0 (length X.stack) (λ i a l. ap (λ (b : Bool). b && struct_to (get_or X.stack i 0) x) (r.cells i (omega arith))))

-- where there are none nothing is refused
pub no-firsts : (X : Image) → ((x : ℕ) → is_first X x ≡ false) → first_of (first_checks X) ≡ accepted
unfolding on_first entry_on_first
no-firsts X f =
    all_first (first_checks X) (
      scan-passes _ _ _ (λ i l. clear (get_or X.heap i 0)),
      (
        scan-passes _ _ _ (λ i l. and-unless (is_cell X i) _ (λ q. clear (word X i))),
        (scan-passes _ _ _ (λ i l. clear (argument X.control 0 i)), (scan-passes _ _ _ (λ i l. and-unless (in_heap (get_or X.trail i 0)) _ (λ q. f (get_or X.trail i 0))), tt)),
      ),
    )
  where
    clear : (w : ℕ) → on_first X w ≡ false
    clear w = of_none (is_first X) (covers_from w) (value_of w + extent X.heap w - covers_from w) (λ j a b. f j)

-- ---- the checks

module _ (X : Image) {work : List ℕ} {notes : ℕ} (r : Right X work notes) (c : Contained X work notes) (e : Entered X.trail (reg X T) (reg X H)) (firsts : ℕ → Bool) (same : (x : ℕ) → x < reg X H → firsts x ≡ is_first X x) where
  word_same : (w : ℕ) → Within (reg X H) X.heap w → on_first X w ≡ covers_in firsts X.heap w
  unfolding on_first covers_in
  word_same w i = some_same (is_first X) firsts (covers_from w) (value_of w + extent X.heap w - covers_from w) (λ x a b. sym (same x (i x (covers X w x a b).0)))

  cell_same : (i : ℕ) → i < length X.stack → (is_cell X i && on_first X (word X i)) ≡ covers_stack firsts X.heap X.stack work notes i
  unfolding covers_stack word
  cell_same i l =
      elim (either (notes_cell work notes i)) [
        | inl q ↦ rw (← r.cells i l, q) (word_same (get_or X.stack i 0) (c.of_stack i l q))
        | inr q ↦ rw (← r.cells i l, q)
      ]

  entry-same : (i : ℕ) → i < reg X T → entry_on_first X (get_or X.trail i 0) ≡ entry_in firsts X.trail i
  unfolding entry_on_first entry_in
  entry-same i l =
      elim (either (in_heap (get_or X.trail i 0))) [
        | inl q ↦ rw q (sym (same (get_or X.trail i 0) (e.entry i l (ltb-true (get_or X.trail i 0) stack_base q))))
        | inr q ↦ rw q
      ]

  pub checks-same : first_of (first_checks X) ≡ first_of (covered_checks firsts X work notes)
  unfolding covered_checks covers_heap covers_control
  checks-same =
      ap first_of (rw (
        scan-same (λ i. on_first X (get_or X.heap i 0)) _ _ _ (λ i l. word_same (get_or X.heap i 0) (c.of_heap i l)),
        scan-same (λ i. is_cell X i && on_first X (word X i)) _ _ _ cell_same,
        scan-same (λ i. on_first X (argument X.control 0 i)) _ _ _ (λ i l. word_same (argument X.control 0 i) (c.of_control i l)),
        scan-same (λ i. entry_on_first X (get_or X.trail i 0)) _ _ _ entry-same,
      ))

-- ---- the work words

-- blank words that are cleared again are as they were
pub blank-again : (h : ℕ) (work work' : List ℕ) → h ≤ length work → ((x : ℕ) → x < h → get_or work x 0 ≡ 0) → drop h work' ≡ drop h work → replicate h 0 ++ drop h work' ≡ work
blank-again h work work' l f d = rw d (ap (λ (front : List ℕ). front ++ drop h work) (sym front) ∙ take-append-drop h work)
  where
    front : take h work ≡ replicate h 0
    front =
        ext_get_or 0 (take h work) (replicate h 0) (omega (arith, length-take-le h work l, length-replicate {A = ℕ} h 0)) (λ x m.
        let b : x < h = omega (arith, length-take-le h work l) in
        get_or-take h work x 0 b ∙ f x b ∙ sym (get_or-replicate h x 0 0 b))
