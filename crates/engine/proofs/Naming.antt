-- The four cases of an address, and the part that each names: as numbers, and as the words that the library's look-up gives. Which case
-- it is follows from the address and from whether the library's part is empty. Assumes nothing.
use Prim.Native.Nat.{ℕ, ◌-◌, ◌≤◌, ◌<◌}
use mathlib.Core.Path.{◌≡◌, sym, ap, ◌∙◌}
use mathlib.Core.Logic.{inl, inr}
use mathlib.Core.List.{List, []}
use native.Mathlib.Omega.{arith}
use lib.ListN.{length, drop, length-drop}
use lib.Dec.{ltb}
use borrow.Author.Tests.{ltb-true, ltb-false, lt-ltb, le-ltb}
use borrow.Author.Rules.{part_to_end}
use Rattle.cell.specs.Word.{stack_base}
use Rattle.machine.specs.declared.Area.TheVariants.{Heap, Stack}
use Rattle.machine.specs.LookUp.{names_heap, names_stack, part_at}
use Rattle.machine.proofs.Tests.{either}
use Rattle.engine.specs.declared.BikPart.{BikPart}
use Rattle.engine.specs.Reasons.{area_number}
use Rattle.engine.specs.Parts.{part_from, part_of, NamesPart}

-- the empty part at the heap's start
abbrev neither : BikPart
neither = record { area = area_number Heap; index = 0; length = 0 }

-- what an address names, in both forms
record Is (heap stack : List ℕ) (a : ℕ) (part : BikPart) (words : List ℕ) : Type 0 where
  counted : part_of heap stack a ≡ part
  listed : part_at heap stack a ≡ words

module _ (heap stack : List ℕ) (a : ℕ) where
  in_heap : a < stack_base → a < length heap → Is heap stack a (part_from (area_number Heap) a (length heap)) (drop a heap)
  unfolding names_heap part_at part_of
  in_heap low inside = record {
    counted = simp (lt-ltb a stack_base low, lt-ltb a (length heap) inside);
    listed = simp (lt-ltb a stack_base low, lt-ltb a (length heap) inside);
  }

  in_stack_lem : stack_base ≤ a → a - stack_base < length stack → Is heap stack a (part_from (area_number Stack) (a - stack_base) (length stack)) (drop (a - stack_base) stack)
  unfolding names_heap names_stack part_at part_of
  in_stack_lem high inside = record {
    counted = simp (le-ltb a stack_base high, lt-ltb (a - stack_base) (length stack) inside);
    listed = simp (le-ltb a stack_base high, lt-ltb (a - stack_base) (length stack) inside);
  }

  past-heap : a < stack_base → length heap ≤ a → Is heap stack a neither []
  unfolding names_heap names_stack part_at part_of
  past-heap low outside = record {
    counted = simp (lt-ltb a stack_base low, le-ltb a (length heap) outside);
    listed = simp (lt-ltb a stack_base low, le-ltb a (length heap) outside);
  }

  past_stack : stack_base ≤ a → length stack ≤ a - stack_base → Is heap stack a neither []
  unfolding names_heap names_stack part_at part_of
  past_stack high outside = record {
    counted = simp (le-ltb a stack_base high, le-ltb (a - stack_base) (length stack) outside);
    listed = simp (le-ltb a stack_base high, le-ltb (a - stack_base) (length stack) outside);
  }

  module _ (part : List ℕ) (given : part ≡ part_at heap stack a) where
    -- how long the part is, in each case
    heap-long : a < stack_base → a < length heap → length part ≡ length heap - a
    heap-long low inside = ap length (given ∙ (in_heap low inside).listed) ∙ length-drop a heap

    stack-long : stack_base ≤ a → a - stack_base < length stack → length part ≡ length stack - (a - stack_base)
    stack-long high inside = ap length (given ∙ (in_stack_lem high inside).listed) ∙ length-drop (a - stack_base) stack

    past-heap-long : a < stack_base → length heap ≤ a → length part ≡ 0
    past-heap-long low outside = ap length (given ∙ (past-heap low outside).listed)

    past-stack-long : stack_base ≤ a → length stack ≤ a - stack_base → length part ≡ 0
    past-stack-long high outside = ap length (given ∙ (past_stack high outside).listed)

    neither-named : Is heap stack a neither [] → NamesPart heap stack a neither
    neither-named is = record { numbers = sym is.counted; words = sym is.listed }

    pub empty-named : length part ≡ 0 → NamesPart heap stack a neither
    empty-named none =
        elim (either (ltb a stack_base)) [
          | inl low ↦ elim (either (ltb a (length heap))) [
            | inl inside ↦ absurd (omega (arith, ltb-true, heap-long (ltb-true _ _ low) (ltb-true _ _ inside)))
            | inr outside ↦ neither-named (past-heap (ltb-true _ _ low) (ltb-false _ _ outside))
          ]
          | inr high ↦ elim (either (ltb (a - stack_base) (length stack))) [
            | inl inside ↦ absurd (omega (arith, ltb-true, stack-long (ltb-false _ _ high) (ltb-true _ _ inside)))
            | inr outside ↦ neither-named (past_stack (ltb-false _ _ high) (ltb-false _ _ outside))
          ]
        ]

    pub heap-named : (length part ≡ 0 → ⊥) → a < stack_base → NamesPart heap stack a (record { area = area_number Heap; index = a; length = length part })
    heap-named some low =
        elim (either (ltb a (length heap))) [
          | inl inside ↦
              let is = in_heap low (ltb-true _ _ inside) in
              rw (heap-long low (ltb-true _ _ inside)) (record { numbers = sym is.counted; words = part_to_end heap a ∙ sym is.listed })
          | inr outside ↦ absurd (some (past-heap-long low (ltb-false _ _ outside)))
        ]

    pub stack-named : (length part ≡ 0 → ⊥) → stack_base ≤ a → NamesPart heap stack a (record { area = area_number Stack; index = a - stack_base; length = length part })
    stack-named some high =
        elim (either (ltb (a - stack_base) (length stack))) [
          | inl inside ↦
              let is = in_stack_lem high (ltb-true _ _ inside) in
              rw (stack-long high (ltb-true _ _ inside)) (record { numbers = sym is.counted; words = part_to_end stack (a - stack_base) ∙ sym is.listed })
          | inr outside ↦ absurd (some (past-stack-long high (ltb-false _ _ outside)))
        ]
