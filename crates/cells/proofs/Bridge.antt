-- From the notes to the image: where the notes are right, each test of the code agrees with the table's test at every index that it is
-- asked of, so both scans give the same verdict. Assumes nothing.
use Rattle.std.specs.Prelude.{Option}
use Prim.Native.Nat.{ℕ, ◌+◌, ◌-◌, ◌<◌}
use mathlib.Core.Path.{◌≡◌, refl, sym, ap, ap₂, ◌∙◌}
use mathlib.Core.Bool.{Bool, ◌&&◌, ◌||◌, not}
use mathlib.Core.List.{List, [], ◌∷◌}
use native.Mathlib.Omega.{arith}
use native.Mathlib.Decide.{dec_lt}
use borrow.Author.Tests.{lt-ltb, le-ltb}
use lib.ListN.{length, get_or}
use lib.Dec.{eqb, leb, ltb}
use Rattle.cell.specs.Word.{VAR, value_of, tag_of, stack_base, in_heap}
use Rattle.cells.specs.declared.places.Bad.TheVariants.{Bits, Reference}
use Rattle.machine.specs.declared.Area.TheVariants.{Trail}
use Rattle.machine.specs.Layout.{Image, H, N, T, reg, argument, word}
use Rattle.machine.specs.Roles.{is_cell, is_field}
use Rattle.machine.specs.Refusals.{in_area, Verdict, accepted, refused, or_else, first_of, marked, refers_well, names_cell, bad_heap, bad_stack, bad_control, good_entry, bad_entry, cell_checks, entry_checks}
use Rattle.machine.specs.Lowest.{Lowest}
use Rattle.machine.proofs.Lowest.{found, scan-lowest}
use Rattle.machine.proofs.Tests.{not_so}
use Rattle.machine.proofs.Firsts.{scan-same}
use Rattle.cells.specs.Cells.{notes_cell, notes_field, names_noted, well_on_stack, well_as_argument, well_entry, marked_in, marked_cell, marked_argument, wrong_stack, wrong_argument, wrong_entry, in_areas, on_heap, on_stack, on_control, checks_of, Right}
use Rattle.cells.proofs.Areas.{areas-then}

module _ (X : Image) {work : List ℕ} {notes : ℕ} (r : Right X work notes) where
  cell_same : (k : ℕ) → (ltb k (length X.stack) && notes_cell work notes k) ≡ is_cell X k
  cell_same k =
      elim (dec_lt k (length X.stack)) [
        | yes l ↦ rw (lt-ltb k (length X.stack) l) (r.cells k l)
        | no l ↦ rw (le-ltb k (length X.stack) (omega arith)) (sym (not_so (is_cell X k) (λ e. omega (arith, r.inside k e))))
      ]

  names_same : (w : ℕ) → names_noted X work notes w ≡ names_cell X w
  unfolding names_noted names_cell
  names_same w = ap (λ (b : Bool). eqb (tag_of w) VAR && (leb stack_base (value_of w) && b)) (cell_same (value_of w - stack_base))

  field-same : (k : ℕ) → (ltb k (length X.stack) && not (notes_field work notes k)) ≡ (ltb k (length X.stack) && not (is_field X k))
  field-same k =
      elim (dec_lt k (length X.stack)) [
        | yes l ↦ ap (λ (b : Bool). ltb k (length X.stack) && not b) (r.fields k l)
        | no l ↦ rw (le-ltb k (length X.stack) (omega arith))
      ]

  entry-same : (a : ℕ) → well_entry X work notes a ≡ good_entry X a
  unfolding well_entry good_entry
  entry-same a = ap (λ (b : Bool). (in_heap a && ltb a (reg X H)) || (leb stack_base a && b)) (field-same (a - stack_base))

  marked-same : (i : ℕ) → i < length X.stack → (is_cell X i && marked (word X i)) ≡ marked_cell X work notes i
  unfolding marked_cell word
  marked-same i l = ap (λ (b : Bool). b && marked (get_or X.stack i 0)) (sym (r.cells i l))

  stack_same : (i : ℕ) → i < length X.stack → bad_stack X i ≡ wrong_stack X work notes i
  unfolding bad_stack wrong_stack well_on_stack word
  stack_same i l =
      let w = get_or X.stack i 0 in
      ap₂ (λ (b c : Bool). b && not (refers_well (reg X H) X.heap w || (c && leb (value_of w) (stack_base + i)))) (sym (r.cells i l)) (sym (names_same w))

  argument-same : (i : ℕ) → bad_control X i ≡ wrong_argument X work notes i
  unfolding bad_control wrong_argument well_as_argument
  argument-same i =
      let w = argument X.control 0 i in
      ap (λ (b : Bool). not (refers_well (reg X H) X.heap w || b)) (sym (names_same w))

  wrong-entry-same : (i : ℕ) → bad_entry X i ≡ wrong_entry X work notes i
  unfolding bad_entry wrong_entry
  wrong-entry-same i = ap not (sym (entry-same (get_or X.trail i 0)))

  cells-here : cell_checks X [] ≡ in_areas 5 (marked_in X.heap) (reg X H) (marked_cell X work notes) (length X.stack) (marked_argument X.control) (reg X N)
      (in_areas 6 (bad_heap X) (reg X H) (wrong_stack X work notes) (length X.stack) (wrong_argument X work notes) (reg X N) [])
  unfolding in_areas marked_in marked_argument
  cells-here =
      rw (scan-same (λ i. is_cell X i && marked (word X i)) _ _ _ marked-same, scan-same (bad_stack X) _ _ _ stack_same, scan-same (bad_control X) _ _ _ (λ i l. argument-same i))

  -- 5 and 6: the verdict of the code's checks for 5, else of those for 6
  pub cells_bridge : first_of (cell_checks X []) ≡ or_else (first_of (checks_of Bits X work notes)) (first_of (checks_of Reference X work notes))
  unfolding checks_of on_heap on_stack on_control
  cells_bridge = ap first_of cells-here ∙ areas-then 5 _ _ _ _ _ _ _

  -- 7: the verdict at the lowest entry that was found
  pub entries-bridge : (o : Option ℕ) → Lowest (wrong_entry X work notes) (reg X T) o → first_of (entry_checks X []) ≡ found (λ i. refused 7 (in_area Trail i)) o
  unfolding first_of or_else
  entries-bridge o f = alone _ ∙ scan-same (bad_entry X) (wrong_entry X work notes) (reg X T) _ (λ i l. wrong-entry-same i) ∙ scan-lowest _ _ _ o f
    where
      alone : (v : Verdict) → first_of (v ∷ []) ≡ v
      alone accepted = refl
      alone (refused number place) = refl
