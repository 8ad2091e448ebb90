-- What the checks before 17 have shown, where they passed: every cell refers within the heap below H, or to no heap cell at all, and a heap
-- entry names a cell below H. So every first cell lies below H. Assumes nothing.
use Prim.Native.Nat.{ℕ, ◌+◌, ◌≤◌, ◌<◌}
use mathlib.Core.Path.{◌≡◌, refl, sym, ◌∙◌}
use mathlib.Core.Logic.{inl, inr}
use mathlib.Core.Bool.{Bool, true, ◌&&◌}
use mathlib.Core.List.{List, []}
use native.Mathlib.Omega.{arith}
use borrow.Author.Tests.{eqb-true, leb-true, ltb-true, not-false}
use lib.ListN.{length, get_or, drop}
use lib.Dec.{eqb, leb, ltb}
use Rattle.cell.specs.Word.{VAR, value_of, tag_of, stack_base, in_heap}
use Rattle.cell.proofs.Words.{extent-stack-var}
use Rattle.machine.specs.declared.Area.TheVariants.{Heap, Stack, Control, Trail}
use Rattle.machine.specs.Layout.{Image, H, N, T, fixed, reg, argument, word}
use Rattle.machine.specs.Roles.{is_cell}
use Rattle.machine.specs.Refusals.{in_area, accepted, refused, first_of, refers_well, names_cell, bad_heap, bad_stack, bad_control, good_entry, bad_entry, cell_checks, entry_checks, struct_to}
use Rattle.machine.proofs.Tests.{and_left, and_right, and-rest, or_cases}
use Rattle.machine.proofs.Accepted.{Sizes, Fits}
use Rattle.machine.proofs.Firsts.{refused-not, passes-scan, first-all}
use Rattle.machine.proofs.Checks.{good-is, heap-iff}
use Rattle.machine.proofs.Inside.{value_low, refers-low}
use Rattle.machine.proofs.FirstCells.{to-iff}
use Rattle.machine.proofs.Parts.{rest-same}
use Rattle.cells.specs.Cells.{Right, notes_cell}
use Rattle.functors.specs.Functors.{heap_to, stack_to, control_to, first_in, Aims, Flags, Within, Named, Contained, Entered}
use Rattle.functors.proofs.Flagging.{aims-clear}
use Rattle.functors.proofs.Covering.{list-below, struct-below}

-- ---- words and entries

module _ (X : Image) where
  names-within : (w : ℕ) → names_cell X w ≡ true → Within (reg X H) X.heap w
  unfolding names_cell
  names-within w e x r =
      let high = leb-true stack_base (value_of w) (and_left (leb stack_base (value_of w)) _ (and_right (eqb (tag_of w) VAR) _ e)) in
      absurd (omega (arith, extent-stack-var X.heap w (eqb-true _ _ (and_left (eqb (tag_of w) VAR) _ e)) high))

  well-within : (w : ℕ) → refers_well (reg X H) X.heap w ≡ true → Within (reg X H) X.heap w
  well-within w e = refers-low (good-is (reg X H) X.heap w e)

  module _ (p : first_of (cell_checks X (entry_checks X [])) ≡ accepted) where
    heap-within : (i : ℕ) → i < reg X H → Within (reg X H) X.heap (get_or X.heap i 0)
    heap-within i l =
        refers-low ((heap-iff X i).0 (passes-scan (bad_heap X) (reg X H) (λ i. refused 6 (in_area Heap i)) (λ i. refused-not _ _) (first-all _ p).1.1.1.0 i l))

    heap-named : (i : ℕ) → i < reg X H → Named (reg X H) (get_or X.heap i 0)
    heap-named i l =
        let g = (heap-iff X i).0 (passes-scan (bad_heap X) (reg X H) (λ i. refused 6 (in_area Heap i)) (λ i. refused-not _ _) (first-all _ p).1.1.1.0 i l) in record {
          var = λ e. value_low g (λ q. omega arith);
          list = λ e. list-below (reg X H) X.heap (get_or X.heap i 0) (heap-within i l) refl e;
        }

    stack-within : (i : ℕ) → i < length X.stack → is_cell X i ≡ true → Within (reg X H) X.heap (word X i)
    unfolding bad_stack
    stack-within i l c =
        let e = passes-scan (bad_stack X) (length X.stack) (λ i. refused 6 (in_area Stack i)) (λ i. refused-not _ _) (first-all _ p).1.1.1.1.0 i l in
        elim (or_cases (refers_well (reg X H) X.heap (word X i)) _ (not-false _ (and-rest (is_cell X i) _ e c))) [
          | inl q ↦ well-within (word X i) q
          | inr q ↦ names-within (word X i) (and_left (names_cell X (word X i)) _ q)
        ]

    control-within : (i : ℕ) → i < reg X N → Within (reg X H) X.heap (argument X.control 0 i)
    unfolding bad_control
    control-within i l =
        let e = passes-scan (bad_control X) (reg X N) (λ i. refused 6 (in_area Control (fixed + i))) (λ i. refused-not _ _) (first-all _ p).1.1.1.1.1.0 i l in
        elim (or_cases (refers_well (reg X H) X.heap (argument X.control 0 i)) _ (not-false _ e)) [
          | inl q ↦ well-within (argument X.control 0 i) q
          | inr q ↦ names-within (argument X.control 0 i) q
        ]

    entry-below : (i : ℕ) → i < reg X T → get_or X.trail i 0 < stack_base → get_or X.trail i 0 < reg X H
    unfolding bad_entry good_entry
    entry-below i l m =
        let e = passes-scan (bad_entry X) (reg X T) (λ i. refused 7 (in_area Trail i)) (λ i. refused-not _ _) (first-all _ p).1.1.1.1.1.1.0 i l in
        elim (or_cases (in_heap (get_or X.trail i 0) && ltb (get_or X.trail i 0) (reg X H)) _ (not-false _ e)) [
          | inl q ↦ ltb-true _ _ (and_right (in_heap (get_or X.trail i 0)) _ q)
          | inr q ↦ absurd (omega (arith, leb-true stack_base (get_or X.trail i 0) (and_left (leb stack_base (get_or X.trail i 0)) _ q)))
        ]

-- ---- the areas

module _ (X : Image) (notes : ℕ) (sizes : Sizes X) (fits : Fits X) (behind : length X.heap ≤ notes) (p : first_of (cell_checks X (entry_checks X [])) ≡ accepted) where
  pub contained : {work : List ℕ} → Right X work notes → Contained X work notes
  unfolding word
  contained r = record {
    top = fits.heap;
    small = omega (arith, fits.heap, sizes.heap);
    behind = omega (arith, fits.heap);
    room = r.room;
    arguments = fits.control;
    of_heap = heap-within X p;
    named = heap-named X p;
    of_stack = λ i l e. stack-within X p i l (sym (r.cells i l) ∙ e);
    of_control = control-within X p;
  }

  pub entered : Entered X.trail (reg X T) (reg X H)
  entered = record { room = fits.trail; entry = entry-below X p }

-- ---- first cells lie below h

struct-aims : (h : ℕ) (heap : List ℕ) (w x : ℕ) → Within h heap w → struct_to w x ≡ true → x < h
struct-aims h heap w x i e = let t = (to-iff w x).0 e in omega (arith, struct-below h heap w i refl t.struct refl, t.first)

module _ {X : Image} {work : List ℕ} {notes : ℕ} (c : Contained X work notes) where
  pub heap-aims : Aims (heap_to X.heap) (reg X H) (reg X H)
  unfolding heap_to
  heap-aims = record { below = λ i x l e. struct-aims (reg X H) X.heap (get_or X.heap i 0) x (c.of_heap i l) e }

  pub stack-aims : Aims (stack_to X.stack work notes) (length X.stack) (reg X H)
  unfolding stack_to
  stack-aims = record { below = λ i x l e. struct-aims (reg X H) X.heap (get_or X.stack i 0) x (c.of_stack i l (and_left (notes_cell work notes i) _ e)) (and_right (notes_cell work notes i) _ e) }

  pub control-aims : Aims (control_to X.control) (reg X N) (reg X H)
  unfolding control_to
  control-aims = record { below = λ i x l e. struct-aims (reg X H) X.heap (argument X.control 0 i) x (c.of_control i l) e }

  -- so flags change no word from h on
  pub flags-rest : {work' : List ℕ} {met most : ℕ} → Flags (first_in X work notes) work work' met most → drop (reg X H) work' ≡ drop (reg X H) work
  unfolding first_in
  flags-rest {work'} f =
      rest-same (reg X H) work' work f.same (λ x l. f.off x (rw (aims-clear heap-aims (reg X H) (omega arith) x l, aims-clear stack-aims (length X.stack) (omega arith) x l, aims-clear control-aims (reg X N) (omega arith) x l)))

pub aims-up : {test : ℕ → ℕ → Bool} {n top : ℕ} → Aims test n top → (above : ℕ) → top ≤ above → Aims test n above
aims-up a above l = record { below = λ i x m e. omega (arith, a.below i x m e) }
