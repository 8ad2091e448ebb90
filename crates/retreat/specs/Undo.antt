-- The two halves of a step back, over lists: the trail entries from a up to z are undone, and the choice point is copied. Assumes nothing.
use Rattle.std.specs.Prelude.{ℕ, ◌+◌, ◌-◌, ◌≤◌, ◌<◌, ◌≡◌, List, length, get_or, ltb}
use Rattle.cell.specs.Word.{pick, stack_base, unbound}
use Rattle.machine.specs.Moved.{each}
use Rattle.machine.specs.Stepped.{among}

-- the word w at the address, undone where one of the entries from a up to z is that address
unfoldable pub undone_word : List ℕ → ℕ → ℕ → ℕ → ℕ → ℕ
undone_word trail a z address w = pick (among trail a (z - a) address) (unbound address) w

-- the word w at i of the control area, or the word i of the choice point at b, of which the first `count` are copied
unfoldable pub copied_word : List ℕ → ℕ → ℕ → ℕ → ℕ → ℕ
copied_word stack b count i w = pick (ltb i count) (get_or stack (b + i) 0) w

-- each entry names a heap cell or a stack word
pub record Undoable (trail heap stack : List ℕ) (a z : ℕ) : Type 0 where
  pub order : a ≤ z
  pub inside : z ≤ length trail
  pub heap_entries : (i : ℕ) → a ≤ i → i < z → get_or trail i 0 < stack_base → get_or trail i 0 < length heap
  pub stack_entries : (i : ℕ) → a ≤ i → i < z → stack_base ≤ get_or trail i 0 → get_or trail i 0 - stack_base < length stack
  pub low_heap : length heap ≤ stack_base
  pub low_stack : length stack ≤ stack_base

-- heap and stack after the entries are undone
pub record Undid (trail : List ℕ) (a z : ℕ) (heap stack heap' stack' : List ℕ) : Type 0 where
  pub on_heap : heap' ≡ each (λ (x : ℕ) (w : ℕ). undone_word trail a z x w) 0 heap
  pub on_stack : stack' ≡ each (λ (i : ℕ) (w : ℕ). undone_word trail a z (stack_base + i) w) 0 stack
