-- Looking into pending cells: what one turn keeps, the number that falls with it, and what holds at the end. Assumes nothing.
use Prim.Native.Nat.{ℕ, zero, suc, ◌+◌, ◌-◌, ◌≤◌, ◌<◌}
use mathlib.Core.Path.{◌≡◌, refl, sym, ap, ◌∙◌, subst}
use mathlib.Core.Logic.{◌⊎◌, inl, inr, ⊎_elim, ◌≢◌}
use mathlib.Core.List.{List, [], ◌∷◌}
use native.Mathlib.Omega.{arith}
use native.Mathlib.Nat.{le_of_suc-le-suc, not-suc-le-zero}
use native.Mathlib.Numerals.{add-one}
use lib.ListN.{get_or, set, length}
use Rattle.cell.specs.Word.{Refers}
use Rattle.machine.proofs.Lists.{In, here, there, in-nil, in-cons}
use Rattle.mark.specs.Marks.{Marked}
use Rattle.mark.specs.Pending.{Chain, unmarked, Leaf, Grown, none, more, leaf, Pushed, Ready, Follows, Drained, here as begin, next}
use Rattle.mark.proofs.Stacks.{chain-set, chain-push, chain-top, set_cases, set_keeps, unmarked-set, unmarked-le, grown-keeps, grown-sound, grown-same}

-- ---- how many cells are pending, as a function of the work words

depth : ℕ → List ℕ → ℕ → ℕ
depth zero marks t = 0
depth (suc fuel) marks zero = 0
depth (suc fuel) marks (suc x) = suc (depth fuel marks (get_or marks x 0 - 1))

-- the cells that are not looked into yet
pub left : List ℕ → ℕ → ℕ
left marks t = unmarked marks + depth (length marks) marks t

depth-chain : (fuel : ℕ) (pending marks : List ℕ) (t : ℕ) → length pending ≤ fuel → Chain marks t pending → depth fuel marks t ≡ length pending
unfolding depth
depth-chain zero [] marks t h c = refl
depth-chain zero (x ∷ pending) marks t h c = absurd (not-suc-le-zero h)
depth-chain (suc fuel) [] marks t h c = rw c
depth-chain (suc fuel) (x ∷ pending) marks t h c =
    rw (c.0, add-one) (ap suc (depth-chain fuel pending marks (get_or marks x 0 - 1) (le_of_suc-le-suc h) c.3))

left_is : (heap marks : List ℕ) (t : ℕ) (r : Ready heap marks t) → left marks t ≡ unmarked marks + length r.pending
unfolding left
left_is heap marks t r =
    ap (λ (n : ℕ). unmarked marks + n) (depth-chain (length marks) r.pending marks t (omega (arith, r.room)) r.chain)

-- ---- in a turn: a marked cell is pending, or in Open, or all that it refers to is marked; at most n cells are not looked into yet

abbrev Settled : List ℕ → (ℕ → Type 0) → List ℕ → List ℕ → ℕ → Type 0
Settled heap Open pending marks x = In x pending ⊎ (Open x ⊎ ((y : ℕ) → Refers heap (get_or heap x 0) y → Marked marks y))

record Turning (heap : List ℕ) (Open : ℕ → Type 0) (n : ℕ) (marks : List ℕ) (top : ℕ) : Type 0 where
  pending : List ℕ
  chain : Chain marks top pending
  count : unmarked marks + length pending ≤ n
  closed : (x : ℕ) → Marked marks x → Settled heap Open pending marks x

module _ (heap : List ℕ) (Open : ℕ → Type 0) (n : ℕ) where
  -- a cell that was marked before a store is as it was
  settled-old : (pending m : List ℕ) (x v : ℕ) → 0 < v → (y : ℕ) → Settled heap Open pending m y → Settled heap Open pending (set m x v) y
  settled-old pending m x v l y s =
      ⊎_elim (λ a. inl a) (λ b. inr (⊎_elim (λ o. inl o) (λ f. inr (λ z r. set_keeps m x v z l (f z r))) b)) s

  module _ (m : List ℕ) (t x : ℕ) (h : x < length m) (e : get_or m x 0 ≡ 0) (r : Turning heap Open n m t) where
    turning-push : Turning heap Open n (set m x (t + 1)) (x + 1)
    turning-push =
        let u : unmarked m ≡ suc (unmarked (set m x (t + 1))) = rw add-one (unmarked-set m x t h e) in
        record {
          pending = x ∷ r.pending;
          chain = chain-push r.pending m t x h e r.chain;
          count = omega (arith, u, r.count);
          closed = λ y k.
              ⊎_elim
              (λ q. inl (here q))
              (λ old. ⊎_elim (λ a. inl (there a)) (λ b. inr b) (settled-old r.pending m x (t + 1) (omega arith) y (r.closed y old)))
              (set_cases m x (t + 1) y k);
        }

    turning-leaf : Leaf heap x → Turning heap Open n (set m x 1) t
    turning-leaf no_cell_lem = record {
      pending = r.pending;
      chain = chain-set r.pending m t x 1 e r.chain;
      count = omega (arith, unmarked-set m x 0 h e, r.count);
      closed = λ y k.
          ⊎_elim
          (λ q. inr (inr (λ z s. absurd (no_cell_lem z (subst (λ (i : ℕ). Refers heap (get_or heap i 0) z) q s)))))
          (λ old. settled-old r.pending m x 1 (omega arith) y (r.closed y old))
          (set_cases m x 1 y k);
    }

  turning-grown : {P : ℕ → Type 0} {marks : List ℕ} {top : ℕ} {m : List ℕ} {t : ℕ} → Grown heap P marks top m t → Turning heap Open n marks top → Turning heap Open n m t
  turning-grown none r = r
  turning-grown (more {m = m} {t = t} g x p h e) r = turning-push m t x h e (turning-grown g r)
  turning-grown (leaf {m = m} {t = t} g x p h e no_cell_lem) r = turning-leaf m t x h e (turning-grown g r) no_cell_lem

-- ---- a turn

module _ (heap marks : List ℕ) (t : ℕ) (r : Ready heap marks t) (pos : t ≢ 0) where
  pub top_in : (t - 1 < length marks) × Marked marks (t - 1) × (get_or marks (t - 1) 0 - 1 ≤ length marks)
  top_in = go r.pending r.chain
    where
      go : (pending : List ℕ) → Chain marks t pending → (t - 1 < length marks) × Marked marks (t - 1) × (get_or marks (t - 1) 0 - 1 ≤ length marks)
      go [] c = absurd (pos c)
      go (x ∷ pending) c =
          let q : t - 1 ≡ x = omega (arith, c.0) in
          rw q (c.1, c.2, chain-top pending marks (get_or marks x 0 - 1) c.3)

  some-pending : 0 < length r.pending
  some-pending = go r.pending r.chain
    where
      go : (pending : List ℕ) → Chain marks t pending → 0 < length pending
      go [] c = absurd (pos c)
      go (x ∷ pending) c = omega arith

  popped : Turning heap (λ (x : ℕ). x ≡ t - 1) (unmarked marks + length r.pending - 1) marks (get_or marks (t - 1) 0 - 1)
  popped = go r.pending r.chain r.closed
    where
      go : (pending : List ℕ)
          → Chain marks t pending
          → ((x : ℕ) → Marked marks x → In x pending ⊎ ((y : ℕ) → Refers heap (get_or heap x 0) y → Marked marks y))
          → Turning heap (λ (x : ℕ). x ≡ t - 1) (unmarked marks + length pending - 1) marks (get_or marks (t - 1) 0 - 1)
      go [] c closed = absurd (pos c)
      go (x ∷ pending) c closed =
          let q : t - 1 ≡ x = omega (arith, c.0) in
          record {
            pending = pending;
            chain = rw q c.3;
            count = omega arith;
            closed = λ y k. ⊎_elim (λ a. ⊎_elim (λ e. inr (inl (e ∙ sym q))) (λ b. inl b) (in-cons a)) (λ f. inr (inr f)) (closed y k);
          }

  module _ {m : List ℕ} {t' : ℕ} (p : Pushed heap (Refers heap (get_or heap (t - 1) 0)) marks (get_or marks (t - 1) 0 - 1) m t') where
    after : Turning heap (λ (x : ℕ). x ≡ t - 1) (unmarked marks + length r.pending - 1) m t'
    after = turning-grown heap (λ (x : ℕ). x ≡ t - 1) (unmarked marks + length r.pending - 1) p.grown popped

    pub turn : Ready heap m t'
    turn = record {
      pending = after.pending;
      chain = after.chain;
      room = omega (arith, after.count, r.room, p.same);
      closed = λ x k.
          ⊎_elim
          (λ a. inl a)
          (λ b. inr (⊎_elim (λ q. λ y f. p.all y (subst (λ (z : ℕ). Refers heap (get_or heap z 0) y) q f)) (λ f. f) b))
          (after.closed x k);
    }

    pub turn-less : left m t' < left marks t
    unfolding turn
    turn-less = omega (arith, left_is heap marks t r, left_is heap m t' turn, after.count, some-pending)

-- ---- the loop's invariant, and its end

pub record Draining (heap marks₀ marks : List ℕ) (t : ℕ) : Type 0 where
  pub ready : Ready heap marks t
  pub sound : (x : ℕ) → Marked marks x → Follows heap marks₀ x
  pub kept : (x : ℕ) → Marked marks₀ x → Marked marks x
  pub same : length marks ≡ length marks₀

pub start : (heap marks : List ℕ) (t : ℕ) → Ready heap marks t → Draining heap marks marks t
start heap marks t r = record { ready = r; sound = λ x k. begin k; kept = λ x k. k; same = refl }

pub again : {heap marks₀ marks m : List ℕ} {t t' : ℕ} → Draining heap marks₀ marks t → t ≢ 0 → Pushed heap (Refers heap (get_or heap (t - 1) 0)) marks (get_or marks (t - 1) 0 - 1) m t' → Draining heap marks₀ m t'
again {heap} {marks₀} {marks} {m} {t} d pos p = record {
  ready = turn heap marks t d.ready pos p;
  sound = λ x k. ⊎_elim (λ f. next (d.sound (t - 1) (top_in heap marks t d.ready pos).1) f) (λ o. d.sound x o) (grown-sound p.grown x k);
  kept = λ x k. grown-keeps p.grown x (d.kept x k);
  same = p.same ∙ d.same;
}

no-pending : (pending marks : List ℕ) (x : ℕ) → Chain marks 0 pending → In x pending → ⊥
no-pending [] marks x c k = in-nil k
no-pending (y ∷ pending) marks x c k = omega (arith, c.0)

pub finish : {heap marks₀ marks : List ℕ} → Draining heap marks₀ marks 0 → Drained heap marks₀ marks
finish {heap} {marks₀} {marks} d = record { exactly = λ x. (λ k. d.sound x k, λ f. whole f); same = d.same }
  where
    whole : {x : ℕ} → Follows heap marks₀ x → Marked marks x
    whole (begin k) = d.kept _ k
    whole (next {y = y} {x = x} f r) =
        ⊎_elim (λ a. absurd (no-pending d.ready.pending marks y d.ready.chain a)) (λ g. g x r) (d.ready.closed y (whole f))

-- ---- before the first turn

pub blank : {P : ℕ → Type 0} {marks m : List ℕ} {t : ℕ} (heap : List ℕ) → ((x : ℕ) → Marked marks x → ⊥) → Grown heap P marks 0 m t → Ready heap m t
blank {P} {marks} {m} {t} heap clear g =
    let none_open : Turning heap (λ (x : ℕ). ⊥) (unmarked marks) marks 0 = record {
      pending = [];
      chain = refl;
      count = omega arith;
      closed = λ x k. absurd (clear x k);
    } in
    let n = turning-grown heap (λ (x : ℕ). ⊥) (unmarked marks) g none_open in
    record {
      pending = n.pending;
      chain = n.chain;
      room = omega (arith, n.count, grown-same g, unmarked-le marks);
      closed = λ x k. ⊎_elim (λ a. inl a) (λ b. inr (⊎_elim (λ v. absurd v) (λ f. f) b)) (n.closed x k);
    }
