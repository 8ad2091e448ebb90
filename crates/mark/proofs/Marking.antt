-- The three steps of marking, one after the other: what each needs, and that at the end exactly what is reached is marked. The work words are
-- lent as `front`, one word for each heap cell, and `notes`, those of the stack's words. Assumes nothing.
use Prim.Native.Nat.{ℕ, ◌+◌, ◌-◌, ◌≤◌}
use mathlib.Core.Path.{◌≡◌, sym, ap, ◌∙◌, subst}
use mathlib.Core.Logic.{◌⊎◌, inl, inr, ⊎_elim}
use mathlib.Core.List.{List, ◌++◌}
use native.Mathlib.Omega.{arith}
use lib.ListN.{get_or, length, take, drop}
use Rattle.cell.specs.Word.{value_of, Refers}
use Rattle.machine.specs.Layout.{H, fixed, field, argument}
use Rattle.machine.specs.Reached.{Reach, from_root, from_cell}
use Rattle.mark.specs.Marks.{Start, in_control, on_stack, AnyCell, on_heap, root, Markable, MarksReached}
use Rattle.mark.specs.Whole.{Passable, CellsBelow, at}
use Rattle.mark.specs.Pending.{Pushable, Pushed, Ready, Inside, Follows, here, next, Drained}
use Rattle.mark.specs.Roots.{Arguments, ByArgument, StackCells, ByCell}
use Rattle.mark.proofs.Stacks.{grown-sound, pushed-join, pushable-part, pushable-after}
use Rattle.mark.proofs.Whole.{passable-pushed, passable-part, from_named}
use Rattle.mark.proofs.Drains.{blank}
use Rattle.mark.proofs.Parted.{Parted, front_length, front-clear, note-same, put_at, put_rest, put_length}

-- some root refers to x
record Rooted (control stack heap work : List ℕ) (x : ℕ) : Type 0 where
  root : ℕ
  is_root : Start control stack heap work root
  refers : Refers heap root x

module _ (control stack heap work : List ℕ) where
  argument-at : (i : ℕ) → fixed ≤ i → argument control 0 (i - fixed) ≡ get_or control i 0
  unfolding argument
  argument-at i l = let e : 0 + fixed + (i - fixed) ≡ i = omega arith in ap (λ (n : ℕ). get_or control n 0) e

  argument-root : (w : ℕ) → Arguments control w → Start control stack heap work w
  argument-root w (at i l p) = subst (Start control stack heap work) (argument-at i p) (in_control (i - fixed) (omega arith))

  heap-cell : (w : ℕ) → CellsBelow (field control 0 H) heap w → AnyCell control stack heap work w
  heap-cell w (at i l p) = on_heap i l

  argument-rooted : (x : ℕ) → ByArgument control heap x → Rooted control stack heap work x
  argument-rooted x r = record { root = get_or control r.at 0; is_root = argument-root _ (at r.at r.below r.picked); refers = r.refers }

module _ {control stack heap work front notes : List ℕ} (c : Parted control stack heap work front notes) where
  abbrev k : Markable control stack heap work
  k = c.markable

  abbrev h : ℕ
  h = field control 0 H

  abbrev Roots : ℕ → Type 0
  Roots = Rooted control stack heap work

  cell-rooted : (x : ℕ) → ByCell stack notes heap x → Roots x
  cell-rooted x r = record { root = get_or stack r.at 0; is_root = on_stack r.at r.below (note-same c r.at ∙ r.picked); refers = r.refers }

  rooted-cases : (x w : ℕ) → Start control stack heap work w → Refers heap w x → ByArgument control heap x ⊎ ByCell stack notes heap x
  unfolding argument
  rooted-cases x w (in_control i l) r = inl (record { at = 0 + fixed + i; below = omega arith; picked = omega arith; refers = r })
  rooted-cases x w (on_stack i l e) r = inr (record { at = i; below = l; picked = sym (note-same c i) ∙ e; refers = r })

  roots-pushable : Pushable heap Roots (take h front) 0
  roots-pushable = record {
    inside = λ x r. omega (arith, front_length c, k.roots r.root r.is_root x r.refers);
    deep = omega (arith, front_length c, k.top);
    small = omega (arith, front_length c, k.top, k.small);
    low = omega arith;
  }

  pub arguments-pushable : Pushable heap (ByArgument control heap) (take h front) 0
  arguments-pushable = pushable-part roots-pushable (argument-rooted control stack heap work)

  -- no cell is marked, so no first cell is
  cells-passable : Passable heap (AnyCell control stack heap work) (take h front)
  cells-passable = record { clear = k.clear; whole = record { arguments = λ w l e marked. absurd (front-clear c (value_of w) marked) } }

  any-argument : (w : ℕ) → Arguments control w → AnyCell control stack heap work w
  any-argument w l = root (argument-root control stack heap work w l)

  any-cell : (w : ℕ) → StackCells stack notes w → AnyCell control stack heap work w
  any-cell w (at i l e) = root (on_stack i l (note-same c i ∙ e))

  pub arguments-passable : Passable heap (Arguments control) (take h front)
  arguments-passable = passable-part cells-passable any-argument

  -- after the saved arguments
  module _ {m : List ℕ} {t : ℕ} (p : Pushed heap (ByArgument control heap) (take h front) 0 m t) where
    pub cells-pushable : Pushable heap (ByCell stack notes heap) m t
    cells-pushable = pushable-part (pushable-after roots-pushable p) cell-rooted

    passable-cells : Passable heap (AnyCell control stack heap work) m
    passable-cells = passable-pushed cells-passable (from_named any-argument) p

    pub stack-passable : Passable heap (StackCells stack notes) m
    stack-passable = passable-part passable-cells any-cell

    -- after the stack's cells
    module _ {m₁ : List ℕ} {u : ℕ} (q : Pushed heap (ByCell stack notes heap) m t m₁ u) where
      pub cells-keep-length : length m₁ ≡ h
      cells-keep-length = q.same ∙ p.same ∙ front_length c

      roots-pushed : Pushed heap Roots (take h front) 0 m₁ u
      roots-pushed =
          pushed-join (argument-rooted control stack heap work) cell-rooted (λ x r. rooted-cases x r.root r.is_root r.refers) p q

      pub ready : Ready heap m₁ u
      ready = blank heap (front-clear c) roots-pushed.grown

      pub inside : Inside (length m₁) heap
      inside = rw cells-keep-length k.cells

      pub heap-passable : Passable heap (CellsBelow (length m₁) heap) m₁
      heap-passable =
          rw cells-keep-length
          (passable-part (passable-pushed passable-cells (from_named any-cell) q) (heap-cell control stack heap work))

      reached : {x : ℕ} → Follows heap m₁ x → Reach heap (Start control stack heap work) x
      reached (here {x = x} l) =
          ⊎_elim (λ r. from_root r.is_root r.refers) (λ o. absurd (front-clear c x o)) (grown-sound roots-pushed.grown x l)
      reached (next f r) = from_cell (reached f) r

      follows : {x : ℕ} → Reach heap (Start control stack heap work) x → Follows heap m₁ x
      follows (from_root {w = w} {x = x} s r) = here (roots-pushed.all x (record { root = w; is_root = s; refers = r }))
      follows (from_cell f r) = next (follows f) r

      -- after the pending cells
      pub marks-reached : {m₂ : List ℕ} → Drained heap m₁ m₂ → MarksReached control stack heap work (m₂ ++ drop h front ++ notes)
      marks-reached {m₂} d =
          let same : length m₂ ≡ h = d.same ∙ cells-keep-length in
          record {
            exactly = λ x l. (λ m. reached ((d.exactly x).0 (rw (put_at c m₂ same x l) at m)), λ r. rw (put_at c m₂ same x l) ((d.exactly x).1 (follows r)));
            rest = put_rest c m₂ same;
            same = put_length c m₂ same;
          }
