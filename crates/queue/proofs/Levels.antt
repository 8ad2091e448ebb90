-- The levels while the queue is followed: the cells before i are looked into, the next level begins at `next`, and what stands from there on came
-- from the level that is looked into. Assumes nothing.
use Prim.Native.Nat.{ℕ, ◌+◌, ◌-◌, ◌≤◌, ◌<◌}
use mathlib.Core.Path.{◌≡◌, sym, ◌∙◌, subst}
use mathlib.Core.Logic.{◌≢◌}
use mathlib.Core.List.{List}
use native.Mathlib.Omega.{arith}
use native.Mathlib.Decide.{ℕ_discrete, dec_lt}
use lib.ListN.{get_or, length}
use Rattle.order.specs.Levels.{Starts, Levelled}

-- the level of j begins at the same place where no bit up to j differs
starts-same : (begins begins' : ℕ → ℕ) (a j : ℕ) → ((i : ℕ) → i ≤ j → begins' i ≡ begins i) → Starts begins' a j → Starts begins a j
starts-same begins begins' a j f s = record {
  low = s.low;
  here = sym (f a s.low) ∙ s.here;
  last = λ i o l. sym (f i l) ∙ s.last i o l;
}

-- the levels before `next` are as in `Levelled`
pub record Levels (begins : ℕ → ℕ) (roots i next : ℕ) (from : List ℕ) : Type 0 where
  pub clear : (j : ℕ) → next ≤ j → begins j ≡ 0
  pub top : 0 < next → begins 0 ≡ 1
  pub first : (j : ℕ) → j < next → Starts begins 0 j → get_or from j 0 < roots
  pub above : (a b j : ℕ) → j < next → Starts begins b j → 0 < b → Starts begins a (b - 1) → (roots + a ≤ get_or from j 0) × (get_or from j 0 < roots + b)
  pub begun : (a : ℕ) → 0 < next → Starts begins a (next - 1) → a ≤ i
  pub low : (a j : ℕ) → next ≤ j → j < length from → 0 < next → Starts begins a (next - 1) → roots + a ≤ get_or from j 0
  pub high : (j : ℕ) → next ≤ j → j < length from → get_or from j 0 < roots + i

module _ (begins : ℕ → ℕ) (roots : ℕ) (from : List ℕ) where
  pub levels-end : {i : ℕ} → ((j : ℕ) → begins j ≤ 1) → Levels begins roots i (length from) from → Levelled begins roots from
  levels-end f k = record { bit = λ j l. f j; top = k.top; first = k.first; above = k.above }

  -- bits past the queue's end don't matter
  pub levelled-same : (begins' : ℕ → ℕ) → ((j : ℕ) → j < length from → begins' j ≡ begins j) → Levelled begins roots from → Levelled begins' roots from
  levelled-same begins' f k =
      let back : (a j : ℕ) → j < length from → Starts begins' a j → Starts begins a j = λ a j l. starts-same begins begins' a j (λ i o. f i (omega arith)) in
      record {
        bit = λ j l. rw (f j l) (k.bit j l);
        top = λ l. f 0 l ∙ k.top l;
        first = λ j l s. k.first j l (back 0 j l s);
        above = λ a b j l s o t. k.above a b j l (back b j l s) o (back a (b - 1) (omega (arith, s.low)) t);
      }

  -- ---- a level begins at i

  module _ (begins' : ℕ → ℕ) (i : ℕ) (now : begins' i ≡ 1) (other : (j : ℕ) → j ≢ i → begins' j ≡ begins j) (h : i < length from) (k : Levels begins roots i i from) where
    older : (a j : ℕ) → j < i → Starts begins' a j → Starts begins a j
    older a j l = starts-same begins begins' a j (λ n o. other n (omega arith))

    -- of what stands from i on, the level begins at i
    here-at : (b j : ℕ) → i ≤ j → Starts begins' b j → b ≡ i
    here-at b j l s =
        elim (ℕ_discrete b i) [
          | yes e ↦ e
          | no e ↦
              elim (dec_lt b i) [
                | yes o ↦ absurd (omega (arith, s.last i o l))
                | no o ↦ absurd (omega (arith, s.here, other b e, k.clear b (omega arith)))
              ]
        ]

    pub levels-begin : Levels begins' roots i (length from) from
    levels-begin = record {
      clear = λ j l. other j (omega arith) ∙ k.clear j (omega arith);
      top = λ l. elim (ℕ_discrete 0 i) [ yes e ↦ rw e now | no e ↦ other 0 e ∙ k.top (omega arith) ];
      first = λ j l s.
          elim (dec_lt j i) [
            | yes o ↦ k.first j o (older 0 j o s)
            | no o ↦ let e = here-at 0 j (omega arith) s in omega (arith, k.high j (omega arith) l)
          ];
      above = λ a b j l s o t.
          elim (dec_lt j i) [
            | yes m ↦ k.above a b j m (older b j m s) o (older a (b - 1) (omega (arith, s.low)) t)
            | no m ↦
                let e = here-at b j (omega arith) s in
                let t' = subst (λ (n : ℕ). Starts begins a (n - 1)) e (older a (b - 1) (omega arith) t) in
                (k.low a j (omega arith) l (omega arith) t', omega (arith, k.high j (omega arith) l))
          ];
      begun = λ a l s. let e = here-at a (length from - 1) (omega arith) s in omega arith;
      low = λ a j l o m s. absurd (omega arith);
      high = λ j l o. absurd (omega arith);
    }

  -- ---- the cell at i is looked into: what is new came from it

  module _ (begins' : ℕ → ℕ) (same : (j : ℕ) → begins' j ≡ begins j) {i next : ℕ} (from' : List ℕ) (h : next ≤ length from) (kept : (j : ℕ) → j < length from → get_or from' j 0 ≡ get_or from j 0) (fresh : (j : ℕ) → length from ≤ j → j < length from' → get_or from' j 0 ≡ roots + i) (k : Levels begins roots i next from) where
    pub levels-turn : Levels begins' roots (i + 1) next from'
    levels-turn =
        let back : (a j : ℕ) → Starts begins' a j → Starts begins a j = λ a j. starts-same begins begins' a j (λ n o. same n) in
        record {
          clear = λ j l. same j ∙ k.clear j l;
          top = λ l. same 0 ∙ k.top l;
          first = λ j l s. omega (arith, kept j (omega arith), k.first j l (back 0 j s));
          above = λ a b j l s o t. rw (kept j (omega arith)) (k.above a b j l (back b j s) o (back a (b - 1) t));
          begun = λ a l s. omega (arith, k.begun a l (back a (next - 1) s));
          low = λ a j l o m s.
              elim (dec_lt j (length from)) [
                | yes b ↦ omega (arith, kept j b, k.low a j l b m (back a (next - 1) s))
                | no b ↦ omega (arith, fresh j (omega arith) o, k.begun a m (back a (next - 1) s))
              ];
          high = λ j l o.
              elim (dec_lt j (length from)) [
                | yes b ↦ omega (arith, kept j b, k.high j l b)
                | no b ↦ omega (arith, fresh j (omega arith) o)
              ];
        }
