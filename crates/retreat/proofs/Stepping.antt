-- The step back of the code is `stepped`: the newest choice point of an accepted image lies inside the stack, and each entry since its T
-- names a heap cell or a stack word. Assumes nothing.
use Prim.Native.Nat.{ℕ, ◌+◌}
use mathlib.Core.Path.{◌≡◌, refl, ap, ◌∙◌}
use mathlib.Core.Logic.{◌≢◌}
use mathlib.Core.List.{List}
use native.Mathlib.Omega.{arith}
use Rattle.cell.specs.Word.{stack_base}
use Rattle.machine.specs.Layout.{Image, B, T, N, fixed, none, reg, at}
use Rattle.machine.specs.Moved.{each}
use Rattle.machine.specs.Stepped.{newest, undone, undoes, reset, copied, stepped}
use Rattle.machine.proofs.Chains as chains
use Rattle.machine.proofs.Chains.{Bounds, point-bounds}
use Rattle.machine.proofs.Accepted.{Accepted}
use Rattle.machine.proofs.Inside.{heap-entry, stack-entry}
use Rattle.retreat.specs.Undo.{undone_word, copied_word, Undoable, Undid}

-- ---- the areas, by definition

module _ (X : Image) where
  pub stepped-heap : each (λ (x : ℕ) (w : ℕ). undone_word X.trail (at X (newest X) T) (reg X T) x w) 0 X.heap ≡ (stepped X).heap
  unfolding undone_word stepped reset undoes undone
  stepped-heap = refl

  pub stepped-stack : each (λ (i : ℕ) (w : ℕ). undone_word X.trail (at X (newest X) T) (reg X T) (stack_base + i) w) 0 X.stack ≡ (stepped X).stack
  unfolding undone_word stepped reset undoes undone
  stepped-stack = refl

  pub stepped-control : each (copied_word (stepped X).stack (newest X) (fixed + at X (newest X) N)) 0 X.control ≡ (stepped X).control
  unfolding copied_word stepped copied
  stepped-control = refl

  -- heap, stack and control as undo and copy leave them
  pub stepped-is : (control stack heap : List ℕ) → Undid X.trail (at X (newest X) T) (reg X T) X.heap X.stack heap stack → control ≡ each (copied_word stack (newest X) (fixed + at X (newest X) N)) 0 X.control → record { control = control; stack = stack; heap = heap; trail = X.trail } ≡ stepped X
  unfolding stepped
  stepped-is control stack heap d e =
      let s = d.on_stack ∙ stepped-stack in
      let h = d.on_heap ∙ stepped-heap in
      let c = e ∙ ap (λ (l : List ℕ). each (copied_word l (newest X) (fixed + at X (newest X) N)) 0 X.control) s ∙ stepped-control in
      λ i. record { control = c i; stack = s i; heap = h i; trail = X.trail }

-- ---- what an accepted image allows

module _ (X : Image) (a : Accepted X) where
  module _ (some : reg X B ≢ none) where
    -- the newest choice point ends inside the stack, and its T and H are at most the registers
    pub newest-bounds : Bounds X (newest X)
    newest-bounds = point-bounds X a.linked (newest X) (chains.newest some)

    pub newest-undoable : Undoable X.trail X.heap X.stack (at X (newest X) T) (reg X T)
    newest-undoable = record {
      order = newest-bounds.trail;
      inside = a.fits.trail;
      heap_entries = λ i l m o. omega (arith, heap-entry (a.trail i m) o, a.fits.heap);
      stack_entries = λ i l m. stack-entry (a.trail i m);
      low_heap = omega (arith, a.sizes.heap);
      low_stack = omega (arith, a.sizes.stack);
    }
