-- The passes together are the definition: the two passes over the stack and the one over the control area give `moved`, the entries that
-- the notes keep are those that the rule keeps. By the role of each word. Assumes nothing.
use Prim.Native.Nat.{ℕ, ◌+◌, ◌-◌, ◌<◌}
use mathlib.Core.Path.{◌≡◌, refl, sym, ap, ◌∙◌, subst}
use mathlib.Core.Logic.{◌≢◌, ⊎_elim, ◌↔◌}
use mathlib.Core.Bool.{Bool, true}
use mathlib.Core.List.{List}
use native.Mathlib.Omega.{arith}
use native.Mathlib.Decide.{ℕ_discrete, dec_lt}
use borrow.Author.Tests.{eq-eqb, eqb-true}
use lib.ListN.{length, get_or}
use Rattle.cell.specs.Word.{stack_base}
use Rattle.machine.specs.Layout.{Image, Field, P, L, E, B, T, H, N, place_of, fixed, reg}
use Rattle.machine.specs.Roles.{Role, cell, CL, CE, own, code_of}
use Rattle.machine.specs.Reached.{Reached}
use Rattle.machine.specs.Moved.{below, move_word, each, move_control, move_stack, Keeps, heap_cell, stack_cell}
use Rattle.machine.proofs.Layouts.{reg-word, place-field, field_at}
use Rattle.machine.proofs.Roles.{has-is, linked-has, code-range}
use Rattle.machine.proofs.Each.{length-each, each_at, each-is, each_same}
use Rattle.machine.proofs.Moves.{fate_of, fated, stack-none, stack-role, control-field, control-saved, control-past}
use Rattle.machine.proofs.Accepted.{Accepted, Entry, on_heap, on_stack}
use Rattle.slide.specs.Slides.{keeps_entry, entries_of, move_t, move_cell, move_control_word}
use Rattle.slide.proofs.Entries.{keeps-heap, keeps-stack}
use Rattle.collect.proofs.Sliding.{Notes}
use Rattle.slide.proofs.Words.{move-cell, move-boundary, move-other, control-T, control-H, control-argument, control-low, control-high, move_t-field, move_t-other}

module _ {X : Image} (a : Accepted X) (cells : ℕ → Bool) (exact : (x : ℕ) → x < reg X H → (cells x ≡ true) ↔ Reached X x) {notes : List ℕ} (noted : Notes X notes) where
  -- ---- the entries

  kept-is : (e : ℕ) → Entry X e → keeps_entry cells notes e ≡ true → Keeps X e
  kept-is e (on_heap l m) q = heap_cell l ((exact e m).0 (sym (keeps-heap cells notes e l) ∙ q))
  kept-is e (on_stack l m f) q = stack_cell l ((noted.role (e - stack_base) m cell).0 (eqb-true _ _ (sym (keeps-stack cells notes e l) ∙ q)))

  is-kept : (e : ℕ) → Entry X e → Keeps X e → keeps_entry cells notes e ≡ true
  is-kept e (on_heap l m) (heap_cell k r) = keeps-heap cells notes e l ∙ (exact e m).1 r
  is-kept e (on_heap l m) (stack_cell k r) = absurd (omega arith)
  is-kept e (on_stack l m f) (heap_cell k r) = absurd (omega arith)
  is-kept e (on_stack l m f) (stack_cell k r) = keeps-stack cells notes e l ∙ eq-eqb _ _ ((noted.role (e - stack_base) m cell).1 r)

  pub exact-entries : (i : ℕ) → i < reg X T → (entries_of cells notes X.trail i ≡ true) ↔ Keeps X (get_or X.trail i 0)
  exact-entries i l = (kept-is (get_or X.trail i 0) (a.trail i l), is-kept (get_or X.trail i 0) (a.trail i l))

  -- ---- the stack

  module _ (entries : ℕ → Bool) where
    both : ℕ → ℕ → ℕ
    both i w = move_cell cells notes i (move_t entries notes i w)

    -- a word whose note is none of the three stays
    by-other : (i w : ℕ) → get_or notes i 0 ≢ code_of cell → get_or notes i 0 ≢ code_of (own T) → get_or notes i 0 ≢ code_of (own H) → both i w ≡ w
    unfolding both
    by-other i w n m k =
        ap (move_cell cells notes i) (move_t-other entries notes i w m)
        ∙ move-other cells _ w n k

    by-role : (i w : ℕ) (r : Role) → get_or notes i 0 ≡ code_of r → both i w ≡ fated (below cells) (below entries) (fate_of r) w
    unfolding both
    by-role i w cell e =
        ap (move_cell cells notes i) (move_t-other entries notes i w (λ q. omega (arith, e, q)))
        ∙ move-cell cells _ w e
    by-role i w CL e = by-other i w (λ q. omega (arith, e, q)) (λ q. omega (arith, e, q)) (λ q. omega (arith, e, q))
    by-role i w CE e = by-other i w (λ q. omega (arith, e, q)) (λ q. omega (arith, e, q)) (λ q. omega (arith, e, q))
    by-role i w (own T) e =
        ap (move_cell cells notes i) (move_t-field entries notes i w e)
        ∙ move-other cells _ (below entries w) (λ q. omega (arith, e, q)) (λ q. omega (arith, e, q))
    by-role i w (own H) e =
        ap (move_cell cells notes i) (move_t-other entries notes i w (λ q. omega (arith, e, q)))
        ∙ move-boundary cells _ w e
    by-role i w (own P) e = by-other i w (λ q. omega (arith, e, q)) (λ q. omega (arith, e, q)) (λ q. omega (arith, e, q))
    by-role i w (own L) e = by-other i w (λ q. omega (arith, e, q)) (λ q. omega (arith, e, q)) (λ q. omega (arith, e, q))
    by-role i w (own E) e = by-other i w (λ q. omega (arith, e, q)) (λ q. omega (arith, e, q)) (λ q. omega (arith, e, q))
    by-role i w (own B) e = by-other i w (λ q. omega (arith, e, q)) (λ q. omega (arith, e, q)) (λ q. omega (arith, e, q))
    by-role i w (own N) e = by-other i w (λ q. omega (arith, e, q)) (λ q. omega (arith, e, q)) (λ q. omega (arith, e, q))

    is-moved : (i w : ℕ) → i < length X.stack → both i w ≡ move_stack cells entries X i w
    is-moved i w l =
        ⊎_elim
        (λ e.
        by-other i w (λ q. omega (arith, e, q)) (λ q. omega (arith, e, q)) (λ q. omega (arith, e, q))
        ∙ sym (stack-none cells entries X i w (λ r h. omega (arith, e, code-range r, (noted.role i l r).1 (linked-has X a.linked i r h)))))
        (λ q. by-role i w q.0 q.1 ∙ sym (stack-role cells entries X a.linked a.apart i w q.0 (has-is X i q.0 ((noted.role i l q.0).0 q.1))))
        (noted.known i l)

    pub stack-joined : each (move_cell cells notes) 0 (each (move_t entries notes) 0 X.stack) ≡ each (move_stack cells entries X) 0 X.stack
    unfolding both
    stack-joined =
        let f = move_cell cells notes in
        let g = move_t entries notes in
        let same = length-each g 0 X.stack in
        each-is (move_stack cells entries X) X.stack (each f 0 (each g 0 X.stack)) (length-each f 0 (each g 0 X.stack) ∙ same)
        (λ i l. each_at f (each g 0 X.stack) i (omega (arith, same)) ∙ ap (f i) (each_at g X.stack i l) ∙ is-moved i (get_or X.stack i 0) l)

    -- ---- the control area

    pub control-joined : (total kept : ℕ) → total ≡ below cells (reg X H) → kept ≡ below entries (reg X T) → each (move_control_word cells total kept X.control) 0 X.control ≡ each (move_control cells entries X) 0 X.control
    control-joined total kept p q = each_same (move_control_word cells total kept X.control) (move_control cells entries X) X.control (λ i l. word-joined i (get_or X.control i 0) refl)
      where
        word-joined : (i w : ℕ) → w ≡ get_or X.control i 0 → move_control_word cells total kept X.control i w ≡ move_control cells entries X i w
        word-joined i w e =
            elim (ℕ_discrete i (place_of T)) [
              | yes t ↦ rw t (control-T cells total kept X.control w ∙ q ∙ ap (below entries) (reg-word X T ∙ sym (rw t at e)) ∙ sym (control-field cells entries X T w))
              | no t ↦ elim (ℕ_discrete i (place_of H)) [
                | yes h ↦ rw h (control-H cells total kept X.control w ∙ p ∙ ap (below cells) (reg-word X H ∙ sym (rw h at e)) ∙ sym (control-field cells entries X H w))
                | no h ↦ elim (dec_lt i fixed) [
                  | yes l ↦ control-low cells total kept X.control i w t h l ∙ sym (fixed-stays i w l t h)
                  | no l ↦ elim (dec_lt i (fixed + reg X N)) [
                    | yes m ↦
                        let s : fixed + (i - fixed) ≡ i = omega arith in
                        control-argument cells total kept X.control i w (omega arith) m ∙ sym (subst (λ (j : ℕ). move_control cells entries X j w ≡ move_word (below cells) w) s (control-saved cells entries X (i - fixed) w (omega arith)))
                    | no m ↦ control-high cells total kept X.control i w (omega arith) ∙ sym (control-past cells entries X i w (omega arith))
                  ]
                ]
              ]
            ]
          where
            stays : (f : Field) → f ≢ T → f ≢ H → fated (below cells) (below entries) (fate_of (own f)) w ≡ w
            stays P n m = refl
            stays L n m = refl
            stays E n m = refl
            stays B n m = refl
            stays T n m = absurd (n refl)
            stays H n m = absurd (m refl)
            stays N n m = refl

            fixed-stays : (i w' : ℕ) → i < fixed → i ≢ place_of T → i ≢ place_of H → move_control cells entries X i w ≡ w
            fixed-stays i w' l t h =
                let s = place-field i l in
                subst (λ (j : ℕ). move_control cells entries X j w ≡ w) s
                (control-field cells entries X (field_at i) w ∙ stays (field_at i) (λ z. t (sym s ∙ ap place_of z)) (λ z. h (sym s ∙ ap place_of z)))
