-- The phases of `check_first` together: what is flagged is the image's first cells, what is told by flags or counts is of them, and what is
-- found by it is what the table refuses. Assumes nothing.
use Rattle.machine.specs.declared.Refusal.{Refusal}
use Rattle.std.specs.Prelude.{Result, Ok}
use Prim.Native.Nat.{ℕ, ◌≤◌, ◌<◌}
use mathlib.Core.Path.{◌≡◌, refl, sym, ap, subst, ◌∙◌}
use mathlib.Core.Logic.{inl, inr}
use mathlib.Core.Bool.{Bool, true, ◌&&◌}
use mathlib.Core.List.{List, ◌++◌}
use native.Mathlib.Omega.{arith}
use lib.ListN.{length, get_or, drop, replicate}
use Rattle.cell.specs.Word.{STRUCT, value_of, tag_of}
use Rattle.machine.specs.Layout.{Image, H, N, T, reg, argument, heap_most}
use Rattle.machine.specs.Refusals.{first_of, struct_to, is_first}
use Rattle.machine.proofs.Tests.{and-true, or_left, or_right}
use Rattle.machine.proofs.FirstCells.{to-iff, found_some}
use Rattle.counts.specs.Counts.{marked_in, Low}
use Rattle.counts.proofs.Counting.{counting-low}
use Rattle.cells.specs.Cells.{checked_to, notes_cell, Right}
use Rattle.functors.specs.Functors.{heap_to, stack_to, control_to, any_to, first_in, covered_checks, Flags, Within, Contained, Entered, Told, Tallied, Owned, Owns, Searchable, Telling, Checkable, ChecksFirst}
use Rattle.functors.proofs.Flagging.{flagged, one-flag, unflagged}
use Rattle.functors.proofs.Covering.{struct-below}
use Rattle.functors.proofs.Apart.{flags-tell, counts-tell}
use Rattle.functors.proofs.Passing.{contained, entered, flags-rest}
use Rattle.functors.proofs.Bridge.{right-after, firsts_same, no-firsts, checks-same, blank-again}

module _ {X : Image} {work : List ℕ} {notes : ℕ} (k : Checkable X work notes) where
  pub contained-at : {work' : List ℕ} → Right X work' notes → Contained X work' notes
  contained-at = contained X notes k.sizes k.fits k.behind k.passed

  pub entered_at : Entered X.trail (reg X T) (reg X H)
  entered_at = entered X notes k.sizes k.fits k.behind k.passed

  -- a STRUCT's target is a first cell
  module _ (i : ℕ) where
    first_heap : i < reg X H → tag_of (get_or X.heap i 0) ≡ STRUCT → first_in X work notes (value_of (get_or X.heap i 0)) ≡ true
    unfolding first_in any_to heap_to
    first_heap l e =
        let w = get_or X.heap i 0 in
        or_left _ _ (found_some (λ j. struct_to (get_or X.heap j 0) (value_of w)) 0 (reg X H) (record { at = i; least = omega arith; low = omega arith; passes = (to-iff w (value_of w)).1 (record { struct = e; first = refl }) }))

    first-stack : i < length X.stack → notes_cell work notes i ≡ true → tag_of (get_or X.stack i 0) ≡ STRUCT → first_in X work notes (value_of (get_or X.stack i 0)) ≡ true
    unfolding first_in any_to stack_to
    first-stack l n e =
        let w = get_or X.stack i 0 in
        or_right (any_to (heap_to X.heap) (reg X H) (value_of w)) _ (or_left _ _ (found_some (λ j. notes_cell work notes j && struct_to (get_or X.stack j 0) (value_of w)) 0 (length X.stack)
        (record { at = i; least = omega arith; low = omega arith; passes = and-true _ _ n ((to-iff w (value_of w)).1 (record { struct = e; first = refl })) })))

    first-control : i < reg X N → tag_of (argument X.control 0 i) ≡ STRUCT → first_in X work notes (value_of (argument X.control 0 i)) ≡ true
    unfolding first_in any_to control_to
    first-control l e =
        let w = argument X.control 0 i in
        or_right (any_to (heap_to X.heap) (reg X H) (value_of w)) _ (or_right (any_to (stack_to X.stack work notes) (length X.stack) (value_of w)) _ (found_some (λ j. struct_to (argument X.control 0 j) (value_of w)) 0 (reg X N)
        (record { at = i; least = omega arith; low = omega arith; passes = (to-iff w (value_of w)).1 (record { struct = e; first = refl }) })))

  -- the flags are set
  module _ {flags : List ℕ} {met most : ℕ} (f : Flags (first_in X work notes) work flags met most) where
    -- no STRUCT was met
    pub nothing-found : met ≡ 0 → ChecksFirst X work (Ok tt) flags
    unfolding checked_to
    nothing-found z = record { gives = sym (no-firsts X (λ x. sym (firsts_same X k.right x) ∙ f.none z x)); stays = unflagged f z }

    countable : (reg X H ≤ length flags) × (reg X H ≤ heap_most)
    countable = let c = contained-at k.right in (omega (arith, c.behind, c.room, f.same), c.small)

    first-flagged : (x : ℕ) → x < reg X H → marked_in flags x ≡ is_first X x
    first-flagged x l = flagged f x (k.blank x l) ∙ firsts_same X k.right x

    -- and counted, unless the structures lie apart
    module _ {counts : List ℕ} {total : ℕ} (d : Told X.heap (reg X H) flags counts total) where
      same : length counts ≡ length flags
      same =
          elim d [
            | inl q ↦ ap (λ (l : List ℕ). length l) q.0
            | inr q ↦ q.same
          ]

      rest : drop (reg X H) counts ≡ drop (reg X H) work
      rest =
          elim d [
            | inl q ↦ ap (λ (l : List ℕ). drop (reg X H) l) q.0 ∙ flags-rest (contained-at k.right) f
            | inr q ↦ q.rest ∙ flags-rest (contained-at k.right) f
          ]

      right : Right X counts notes
      right = right-after k.right (reg X H) (contained-at k.right).behind counts rest (same ∙ f.same)

      one : (x : ℕ) → x < reg X H → get_or flags x 0 ≤ 1
      one x l = one-flag f x (k.blank x l)

      low : Low (reg X H) counts
      low =
          elim d [
            | inl q ↦ subst (λ (l : List ℕ). Low (reg X H) l) (sym q.0) (record { most = countable.1; inside = countable.0; words = λ x l. omega (arith, one x l) })
            | inr q ↦ counting-low q.counting countable.1 (omega (arith, countable.0, q.same))
          ]

      tallied : Tallied (marked_in flags) X.heap (reg X H) counts total
      tallied =
          elim d [
            | inl q ↦ rw (q.0, q.1) (flags-tell X.heap (reg X H) flags one q.2)
            | inr q ↦ counts-tell X.heap (reg X H) flags q
          ]

      -- a STRUCT's first cell is flagged
      owned : (w : ℕ) → Within (reg X H) X.heap w → (tag_of w ≡ STRUCT → first_in X work notes (value_of w) ≡ true) → Owned (marked_in flags) w
      owned w i g e = flagged f (value_of w) (k.blank (value_of w) (omega (arith, struct-below (reg X H) X.heap w i refl e refl))) ∙ g e

      owns : Owns (marked_in flags) X counts notes
      owns =
          let c = contained-at right in record {
            of_heap = λ i l. owned (get_or X.heap i 0) (c.of_heap i l) (first_heap i l);
            of_stack = λ i l e. owned (get_or X.stack i 0) (c.of_stack i l e) (first-stack i l (k.right.cells i l ∙ sym (right.cells i l) ∙ e));
            of_control = λ i l. owned (argument X.control 0 i) (c.of_control i l) (first-control i l);
          }

      pub searchable : Searchable X counts notes
      searchable = record { contained = contained-at right; low = low; entered = entered_at }

      -- what is searched for is found, and the words are cleared again
      pub all_found : {r : Result (Unit {0}) Refusal} {last : List ℕ} → ((firsts : ℕ → Bool) → Telling firsts X counts notes total → checked_to r ≡ first_of (covered_checks firsts X counts notes)) → last ≡ replicate (reg X H) 0 ++ drop (reg X H) counts → ChecksFirst X work r last
      all_found s z = record {
        gives = s (marked_in flags) (record { tallied = tallied; owns = owns }) ∙ sym (checks-same X right (contained-at right) entered_at (marked_in flags) first-flagged);
        stays = z ∙ blank-again (reg X H) work counts (omega (arith, countable.0, f.same)) k.blank rest;
      }
