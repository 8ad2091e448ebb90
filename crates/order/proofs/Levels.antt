-- The levels of the queue: each place has one, its path is as long as levels begin up to it, and what it came from is the first cell of the level
-- above that refers to it, or a root. By the places from the front, a level going on until the next begins. Assumes nothing.
use Prim.Native.Nat.{ℕ, zero, suc, ◌+◌, ◌-◌, ◌<◌, ◌≤◌}
use mathlib.Core.Path.{◌≡◌, refl, subst}
use mathlib.Core.Logic.{◌⊎◌, inl, inr}
use mathlib.Core.List.{List, [], ◌∷◌}
use native.Mathlib.Omega.{arith}
use native.Mathlib.Decide.{dec_lt, ℕ_discrete}
use lib.ListN.{length, get_or, length-append}
use Rattle.cell.specs.Word.{Refers}
use Rattle.order.specs.Queue.{Queued, Path, by_root, by_cell}
use Rattle.order.specs.Levels.{Starts, levels, Levelled}
use Rattle.order.proofs.Lines.{source-at, from_first}

module _ (begins : ℕ → ℕ) where
  pub levels-zero : levels begins 0 ≡ 0
  unfolding levels
  levels-zero = refl

  pub levels-more : (j : ℕ) → levels begins (suc j) ≡ levels begins j + begins j
  unfolding levels
  levels-more j = refl

  -- where no level begins, none is counted
  levels-none : (a j : ℕ) → a ≤ j → ((i : ℕ) → a ≤ i → i < j → begins i ≡ 0) → levels begins j ≡ levels begins a
  levels-none a zero l f = let e : a ≡ 0 = omega arith in rw e
  levels-none a (suc j) l f =
      elim (ℕ_discrete a (suc j)) [
        | yes e ↦ rw e
        | no n ↦ omega (arith, levels-more j, levels-none a j (omega arith) (λ i p h. f i p (omega arith)), f j (omega arith) (omega arith))
      ]

module _ {begins : ℕ → ℕ} where
  -- up to a place of a level, one more has begun than before the level
  pub starts-count : {a j : ℕ} → Starts begins a j → levels begins (suc j) ≡ suc (levels begins a)
  starts-count {a} {j} s =
      let n = levels-none begins (suc a) (suc j) (omega (arith, s.low)) (λ i p h. s.last i p (omega arith)) in
      omega (arith, levels-more begins a, s.here)

  -- the earlier places of a level
  pub starts-back : {a j : ℕ} (i : ℕ) → Starts begins a j → a ≤ i → i ≤ j → Starts begins a i
  starts-back i s l m = record { low = l; here = s.here; last = λ k p h. s.last k p (omega arith) }

  pub starts-unique : {a b j : ℕ} → Starts begins a j → Starts begins b j → a ≡ b
  starts-unique {a} {b} {j} s t =
      elim (dec_lt a b) [
        | yes l ↦ absurd (omega (arith, s.last b l t.low, t.here))
        | no l ↦
            elim (dec_lt b a) [
              | yes m ↦ absurd (omega (arith, t.last a m s.low, s.here))
              | no m ↦ omega arith
            ]
      ]

  -- a level begins at a place, or goes on
  pub starts-here : (j : ℕ) → begins j ≡ 1 → Starts begins j j
  starts-here j e = record { low = omega arith; here = e; last = λ i l m. absurd (omega arith) }

  pub starts_more : {a j : ℕ} → Starts begins a j → begins (suc j) ≡ 0 → Starts begins a (suc j)
  starts_more {a} {j} s e = record {
    low = omega (arith, s.low);
    here = s.here;
    last = λ i l m. elim (ℕ_discrete i (suc j)) [
      | yes o ↦ rw o e
      | no n ↦ s.last i l (omega arith)
    ];
  }

  -- each place has its level
  pub starts-exists : {roots : ℕ} {from : List ℕ} → Levelled begins roots from → (j : ℕ) → j < length from → (a : ℕ) × Starts begins a j
  starts-exists v zero l = (0, starts-here 0 (v.top l))
  starts-exists v (suc j) l =
      let p = starts-exists v j (omega arith) in
      elim (ℕ_discrete (begins (suc j)) 1) [
        | yes e ↦ (suc j, starts-here (suc j) e)
        | no n ↦ (p.0, starts_more p.1 (omega (arith, v.bit (suc j) l)))
      ]

-- the place above from which the cell at j came: it is of the level [a, b), and the first whose cell refers to the one at j
pub record Parent (heap cells from : List ℕ) (begins : ℕ → ℕ) (roots a b j : ℕ) : Type 0 where
  pub at : ℕ
  pub low : a ≤ at
  pub high : at < b
  pub came : get_or from j 0 ≡ roots + at
  pub refers : Refers heap (get_or heap (get_or cells at 0) 0) (get_or cells j 0)
  pub first : (i : ℕ) → i < at → Refers heap (get_or heap (get_or cells i 0) 0) (get_or cells j 0) → ⊥
  pub level : Starts begins a at
  pub deeper : levels begins (suc j) ≡ suc (levels begins (suc at))

-- a search of the level above for the first cell that refers to the one at j ends there
pub parent_is : {heap cells from : List ℕ} {begins : ℕ → ℕ} {roots a b j : ℕ} (p : Parent heap cells from begins roots a b j) (i : ℕ) → Refers heap (get_or heap (get_or cells i 0) 0) (get_or cells j 0)
    → ((k : ℕ) → a ≤ k → k < i → Refers heap (get_or heap (get_or cells k 0) 0) (get_or cells j 0) → ⊥) → i ≡ p.at
parent_is p i f g =
    elim (dec_lt i p.at) [
      | yes m ↦ absurd (p.first i m f)
      | no m ↦
          elim (dec_lt p.at i) [
            | yes o ↦ absurd (g p.at p.low o p.refers)
            | no o ↦ omega arith
          ]
    ]

module _ {heap : List ℕ} {word : ℕ → ℕ} {roots : ℕ} {cells from : List ℕ} {begins : ℕ → ℕ} (q : Queued heap word roots cells from) (v : Levelled begins roots from) where
  pub parent : {a b : ℕ} (j : ℕ) → j < length cells → Starts begins b j → 0 < b → Starts begins a (b - 1) → Parent heap cells from begins roots a b j
  parent {a} {b} j l s p t =
      let u = v.above a b j (omega (arith, q.paired)) s p t in
      let i : ℕ = get_or from j 0 - roots in
      let e : get_or from j 0 ≡ roots + i = omega arith in
      let m : Starts begins a i = starts-back i t (omega arith) (omega arith) in
      let c : b ≡ suc (b - 1) = omega arith in
      record {
        at = i;
        low = omega arith;
        high = omega arith;
        came = e;
        refers = rw (source-at q i refl) at (rw e at (q.refers j l));
        first = λ k h f. omega (arith, from_first q j (roots + k) l (rw (source-at q k refl) f));
        level = m;
        deeper = omega (arith, starts-count s, starts-count m, rw (← c) at (starts-count t));
      }

  -- what the first level's cells came from
  pub top_from : (j : ℕ) → j < length cells → Starts begins 0 j → get_or from j 0 < roots
  top_from j l s = v.first j (omega (arith, q.paired)) s

  -- a place is of the first level, or below another level
  pub level-cases : (j : ℕ) → j < length cells → Starts begins 0 j ⊎ ((a b : ℕ) × Starts begins b j × (0 < b) × Starts begins a (b - 1))
  level-cases j l =
      let s = starts-exists v j (omega (arith, q.paired)) in
      elim (ℕ_discrete s.0 0) [
        | yes e ↦ inl (subst (λ (b : ℕ). Starts begins b j) e s.1)
        | no n ↦
            let t = starts-exists v (s.0 - 1) (omega (arith, q.paired, s.1.low)) in
            inr (t.0, s.0, s.1, omega arith, t.1)
      ]

  -- a path is as long as levels begin up to its place
  pub path-length : {j r : ℕ} {path : List ℕ} → Path roots cells from j r path → length path ≡ levels begins (suc j)
  path-length (by_root {j = j} l m) =
      elim (level-cases j l) [
        | inl s ↦ omega (arith, starts-count s, levels-zero begins)
        | inr s ↦ absurd (omega (arith, (parent j l s.2 s.3 s.4).came))
      ]
  path-length (by_cell {j = j} {i = i} {path = path} l e p) =
      elim (level-cases j l) [
        | inl s ↦ absurd (omega (arith, top_from j l s))
        | inr s ↦
            let u = parent j l s.2 s.3 s.4 in
            let o : u.at ≡ i = omega (arith, u.came) in
            omega (arith, path-length p, length-append path (get_or cells j 0 ∷ []), rw o at u.deeper)
      ]
