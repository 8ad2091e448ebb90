-- Trail entries are undone one after the other: the word at an address is unbound once an entry names the address, and an entry that comes
-- twice unbinds twice. Heap and stack differ only in the address of a word. Assumes nothing.
use Prim.Native.Nat.{ℕ, zero, suc, ◌+◌, ◌-◌, ◌≤◌, ◌<◌}
use mathlib.Core.Path.{◌≡◌, refl, sym, ap, ◌∙◌}
use mathlib.Core.Logic.{◌≢◌}
use mathlib.Core.Bool.{Bool, true, false, ◌||◌, or-false, or_assoc}
use mathlib.Core.List.{List, [], ◌∷◌}
use native.Mathlib.Omega.{arith}
use borrow.Author.Tests.{eq-eqb, ne_eqb}
use lib.ListN.{length, get_or, set}
use lib.Dec.{eqb}
use Rattle.cell.specs.Word.{pick, stack_base, unbound}
use Rattle.machine.specs.Moved.{each}
use Rattle.machine.specs.Stepped.{among}
use Rattle.machine.proofs.Each.{length-each, each_at, each-is, each_keeps}
use Rattle.machine.proofs.InPlace.{in-place-none, in-place-more, in-place-skip, in-place-end}
use Rattle.retreat.specs.Undo.{undone_word, Undoable, Undid}

-- ---- one word

-- the last of the entries apart
pub among-more : (trail : List ℕ) (i n address : ℕ) → among trail i (suc n) address ≡ (among trail i n address || eqb (get_or trail (i + n) 0) address)
unfolding among
among-more trail i zero address = let e : i + 0 ≡ i = omega arith in rw e (or-false (eqb (get_or trail i 0) address))
among-more trail i (suc n) address =
    let e : suc i + n ≡ i + suc n = omega arith in
    ap (λ (b : Bool). eqb (get_or trail i 0) address || b) (among-more trail (suc i) n address)
    ∙ sym (or_assoc (eqb (get_or trail i 0) address) (among trail (suc i) n address) (eqb (get_or trail (suc i + n) 0) address))
    ∙ ap (λ (y : ℕ). eqb (get_or trail i 0) address || among trail (suc i) n address || eqb (get_or trail y 0) address) e

pub undone-none : (trail : List ℕ) (a address w : ℕ) → undone_word trail a a address w ≡ w
unfolding undone_word among
undone-none trail a address w = let e : a - a ≡ 0 = omega arith in rw e

undone-one : (entry address w : ℕ) → undone_word (entry ∷ []) 0 1 address w ≡ pick (eqb entry address) (unbound address) w
unfolding undone_word among
undone-one entry address w = ap (λ (b : Bool). pick b (unbound address) w) (or-false (eqb entry address))

undone-hit : (entry address w : ℕ) → entry ≡ address → undone_word (entry ∷ []) 0 1 address w ≡ unbound address
undone-hit entry address w e = undone-one entry address w ∙ ap (λ (b : Bool). pick b (unbound address) w) (eq-eqb entry address e)

undone-miss : (entry address w : ℕ) → entry ≢ address → undone_word (entry ∷ []) 0 1 address w ≡ w
undone-miss entry address w n = undone-one entry address w ∙ ap (λ (b : Bool). pick b (unbound address) w) (ne_eqb entry address n)

pick-again : (p q : Bool) (u w : ℕ) → pick (p || q) u w ≡ pick q u (pick p u w)
pick-again true true u w = refl
pick-again true false u w = refl
pick-again false true u w = refl
pick-again false false u w = refl

-- one entry more
pub undone-more : (trail : List ℕ) (a i address w : ℕ) → a ≤ i → undone_word (get_or trail i 0 ∷ []) 0 1 address (undone_word trail a i address w) ≡ undone_word trail a (i + 1) address w
unfolding undone_word
undone-more trail a i address w l =
    let e : i + 1 - a ≡ suc (i - a) = omega arith in
    let f : a + (i - a) ≡ i = omega arith in
    rw (e, among-more trail a (i - a) address, f) (undone-one (get_or trail i 0) address (undone_word trail a i address w) ∙ sym (pick-again (among trail a (i - a) address) (eqb (get_or trail i 0) address) (unbound address) w))

-- ---- the words of an area, the word i at the address `at i`

module _ (at : ℕ → ℕ) where
  words-none : (trail l : List ℕ) (a : ℕ) → l ≡ each (λ (i : ℕ) (w : ℕ). undone_word trail a a (at i) w) 0 l
  words-none trail l a = sym (each_keeps (λ (i : ℕ) (w : ℕ). undone_word trail a a (at i) w) l (λ x h. undone-none trail a (at x) (get_or l x 0)))

  words_more : (trail : List ℕ) (a i : ℕ) → a ≤ i → (l m n : List ℕ) → m ≡ each (λ (x : ℕ) (w : ℕ). undone_word trail a i (at x) w) 0 l → n ≡ each (λ (x : ℕ) (w : ℕ). undone_word (get_or trail i 0 ∷ []) 0 1 (at x) w) 0 m → n ≡ each (λ (x : ℕ) (w : ℕ). undone_word trail a (i + 1) (at x) w) 0 l
  words_more trail a i o l m n p q = rw (q, p) (each-is (word (i + 1)) l (each one 0 (each (word i) 0 l)) same (λ x h.
      each_at one (each (word i) 0 l) x (omega (arith, length-each (word i) 0 l))
      ∙ ap (one x) (each_at (word i) l x h)
      ∙ undone-more trail a i (at x) (get_or l x 0) o))
    where
      word : ℕ → ℕ → ℕ → ℕ
      word z x w = undone_word trail a z (at x) w

      one : ℕ → ℕ → ℕ
      one x w = undone_word (get_or trail i 0 ∷ []) 0 1 (at x) w

      same : length (each one 0 (each (word i) 0 l)) ≡ length l
      same = length-each one 0 (each (word i) 0 l) ∙ length-each (word i) 0 l

  -- one entry, which names the word i
  words-store : (entry : ℕ) (l : List ℕ) (i v : ℕ) → i < length l → entry ≡ at i → v ≡ unbound entry → ((k : ℕ) → k ≢ i → entry ≢ at k) → set l i v ≡ each (λ (x : ℕ) (w : ℕ). undone_word (entry ∷ []) 0 1 (at x) w) 0 l
  words-store entry l i v h e q f =
      let miss : (k : ℕ) → k ≢ i → Becomes k (get_or l k 0) (get_or l k 0) = λ k n. sym (undone-miss entry (at k) (get_or l k 0) (f k n)) in
      let before = in-place-skip Becomes (in-place-none Becomes l) i (omega arith) (λ k a b. miss k (omega arith)) in
      let hit = in-place-more Becomes before h v (q ∙ ap unbound e ∙ sym (undone-hit entry (at i) (get_or l i 0) e)) in
      in-place-end Becomes (in-place-skip Becomes hit (length l) (omega arith) (λ k a b. miss k (omega arith))) (omega arith) _ (λ k w u r. r)
    where
      Becomes : ℕ → ℕ → ℕ → Type 0
      Becomes k w u = u ≡ undone_word (entry ∷ []) 0 1 (at k) w

  -- or none of them
  words-stay : (entry : ℕ) (l : List ℕ) → ((k : ℕ) → k < length l → entry ≢ at k) → l ≡ each (λ (x : ℕ) (w : ℕ). undone_word (entry ∷ []) 0 1 (at x) w) 0 l
  words-stay entry l f = sym (each_keeps (λ (x : ℕ) (w : ℕ). undone_word (entry ∷ []) 0 1 (at x) w) l (λ x h. undone-miss entry (at x) (get_or l x 0) (f x h)))

-- ---- heap and stack

-- the address of a stack word
abbrev on_stack : ℕ → ℕ
on_stack i = stack_base + i

abbrev on_heap : ℕ → ℕ
on_heap x = x

entry-on-heap : {heap stack : List ℕ} {entry : ℕ} → Undoable (entry ∷ []) heap stack 0 1 → entry < stack_base → entry < length heap
entry-on-heap u l = u.heap_entries 0 (omega arith) (omega arith) l

entry-on-stack : {heap stack : List ℕ} {entry : ℕ} → Undoable (entry ∷ []) heap stack 0 1 → stack_base ≤ entry → entry - stack_base < length stack
entry-on-stack u l = u.stack_entries 0 (omega arith) (omega arith) l

pub undid-on-heap : {heap stack : List ℕ} {entry : ℕ} → Undoable (entry ∷ []) heap stack 0 1 → entry < stack_base → (v : ℕ) → v ≡ unbound entry → Undid (entry ∷ []) 0 1 heap stack (set heap entry v) stack
undid-on-heap {heap} {stack} {entry} u l v e = record {
  on_heap = words-store on_heap entry heap entry v (entry-on-heap u l) refl e (λ k n z. n (sym z));
  on_stack = words-stay on_stack entry stack (λ k o z. omega arith);
}

pub undid-on-stack : {heap stack : List ℕ} {entry : ℕ} → Undoable (entry ∷ []) heap stack 0 1 → stack_base ≤ entry → (v : ℕ) → v ≡ unbound entry → Undid (entry ∷ []) 0 1 heap stack heap (set stack (entry - stack_base) v)
undid-on-stack {heap} {stack} {entry} u l v e = record {
  on_heap = words-stay on_heap entry heap (λ k o z. omega (arith, u.low_heap));
  on_stack = words-store on_stack entry stack (entry - stack_base) v (entry-on-stack u l) (omega arith) e (λ k n z. n (omega arith));
}

-- no entry is undone, and one more
pub undid-none : (trail heap stack : List ℕ) (a : ℕ) → Undid trail a (a + 0) heap stack heap stack
undid-none trail heap stack a =
    let e : a + 0 ≡ a = omega arith in
    rw e (record { on_heap = words-none on_heap trail heap a; on_stack = words-none on_stack trail stack a })

pub undid-more : {trail heap₀ stack₀ heap stack heap' stack' : List ℕ} {a entry : ℕ} (i : ℕ) → Undid trail a (a + i) heap₀ stack₀ heap stack → entry ≡ get_or trail (a + i) 0 → Undid (entry ∷ []) 0 1 heap stack heap' stack' → Undid trail a (a + (i + 1)) heap₀ stack₀ heap' stack'
undid-more {trail} {heap₀} {stack₀} {heap} {stack} {heap'} {stack'} {a} {entry} i u e d =
    let f : a + (i + 1) ≡ a + i + 1 = omega arith in
    let one = rw e at d in
    rw f (record {
      on_heap = words_more on_heap trail a (a + i) (omega arith) heap₀ heap heap' u.on_heap one.on_heap;
      on_stack = words_more on_stack trail a (a + i) (omega arith) stack₀ stack stack' u.on_stack one.on_stack;
    })

pub undid-stack-length : {trail heap₀ stack₀ heap stack : List ℕ} {a i : ℕ} → Undid trail a i heap₀ stack₀ heap stack → length stack ≡ length stack₀
undid-stack-length {trail} {heap₀} {stack₀} {a = a} {i = i} d = ap length d.on_stack ∙ length-each (λ (x : ℕ) (w : ℕ). undone_word trail a i (stack_base + x) w) 0 stack₀
