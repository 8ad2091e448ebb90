-- The pending stack: what one store keeps, and what a run of pushes keeps. Runs over two sets of cells join to one. Assumes nothing.
use Prim.Native.Nat.{ℕ, zero, suc, suc-le-suc, ◌+◌, ◌-◌, ◌≤◌, ◌<◌}
use mathlib.Core.Path.{◌≡◌, refl, sym, ap, ◌∙◌, subst}
use mathlib.Core.Logic.{◌⊎◌, inl, inr, ⊎_elim, ◌≢◌}
use mathlib.Core.List.{List, [], ◌∷◌}
use native.Mathlib.Omega.{arith}
use native.Mathlib.Nat.{le_of_suc-le-suc, not-suc-le-zero}
use native.Mathlib.Decide.{ℕ_discrete}
use lib.ListN.{get_or, set, length, length-set}
use lib.Seq.{get_or-set_same, get_or-set_other, lt-length-set}
use Rattle.mark.specs.Marks.{Marked}
use Rattle.mark.specs.Pending.{Chain, unmarked, Range, Leaf, Grown, none, more, leaf, Pushed, Pushable}

-- ---- one store

pub set_keeps : (m : List ℕ) (x v y : ℕ) → 0 < v → Marked m y → Marked (set m x v) y
set_keeps [] x v y p k = k
set_keeps (w ∷ ws) zero v zero p k = p
set_keeps (w ∷ ws) zero v (suc y) p k = k
set_keeps (w ∷ ws) (suc x) v zero p k = k
set_keeps (w ∷ ws) (suc x) v (suc y) p k = set_keeps ws x v y p k

set-marks : (m : List ℕ) (x v : ℕ) → x < length m → 0 < v → (y : ℕ) → y ≡ x → Marked (set m x v) y
set-marks m x v h l y q = rw (q, get_or-set_same m x v 0 h) l

pub set_cases : (m : List ℕ) (x v y : ℕ) → Marked (set m x v) y → (y ≡ x) ⊎ Marked m y
set_cases [] x v y k = inr k
set_cases (w ∷ ws) zero v zero k = inl refl
set_cases (w ∷ ws) zero v (suc y) k = inr k
set_cases (w ∷ ws) (suc x) v zero k = inr k
set_cases (w ∷ ws) (suc x) v (suc y) k = ⊎_elim (λ e. inl (ap suc e)) (λ h. inr h) (set_cases ws x v y k)

pub unmarked-le : (m : List ℕ) → unmarked m ≤ length m
unfolding unmarked
unmarked-le [] = omega arith
unmarked-le (zero ∷ ws) = suc-le-suc (unmarked-le ws)
unmarked-le (suc w ∷ ws) = omega (arith, unmarked-le ws)

pub unmarked-set : (m : List ℕ) (x v : ℕ) → x < length m → get_or m x 0 ≡ 0 → unmarked m ≡ suc (unmarked (set m x (suc v)))
unfolding unmarked
unmarked-set [] x v h e = absurd (not-suc-le-zero h)
unmarked-set (zero ∷ ws) zero v h e = refl
unmarked-set (suc w ∷ ws) zero v h e = omega arith
unmarked-set (zero ∷ ws) (suc x) v h e = ap suc (unmarked-set ws x v (le_of_suc-le-suc h) e)
unmarked-set (suc w ∷ ws) (suc x) v h e = unmarked-set ws x v (le_of_suc-le-suc h) e

-- ---- the chain

pub chain-set : (pending m : List ℕ) (top x v : ℕ) → get_or m x 0 ≡ 0 → Chain m top pending → Chain (set m x v) top pending
chain-set [] m top x v e c = c
chain-set (y ∷ pending) m top x v e c =
    let other : y ≢ x = λ q. omega (arith, ap (λ (z : ℕ). get_or m z 0) q, c.2) in
    let kept : get_or (set m x v) y 0 ≡ get_or m y 0 = get_or-set_other m x y v 0 other in
    (c.0, lt-length-set m x v c.1, rw kept c.2, rw kept (chain-set pending m (get_or m y 0 - 1) x v e c.3))

pub chain-top : (pending m : List ℕ) (top : ℕ) → Chain m top pending → top ≤ length m
chain-top [] m top c = omega arith
chain-top (y ∷ pending) m top c = omega (arith, c.0, c.1)

-- the chain after a push of x
pub chain-push : (pending m : List ℕ) (top x : ℕ) → x < length m → get_or m x 0 ≡ 0 → Chain m top pending → Chain (set m x (top + 1)) (x + 1) (x ∷ pending)
chain-push pending m top x h e c =
    let now : get_or (set m x (top + 1)) x 0 ≡ top + 1 = get_or-set_same m x (top + 1) 0 h in
    let back : top + 1 - 1 ≡ top = omega arith in
    (refl, lt-length-set m x (top + 1) h, rw now (omega arith), rw (now, back) (chain-set pending m top x (top + 1) e c))

-- ---- runs of pushes

module _ {heap : List ℕ} where
  pub grown-keeps : {P : ℕ → Type 0} {marks : List ℕ} {top : ℕ} {m : List ℕ} {t : ℕ} → Grown heap P marks top m t → (y : ℕ) → Marked marks y → Marked m y
  grown-keeps none y k = k
  grown-keeps (more {m = m} {t = t} g x p h e) y k = set_keeps m x (t + 1) y (omega arith) (grown-keeps g y k)
  grown-keeps (leaf {m = m} g x p h e n) y k = set_keeps m x 1 y (omega arith) (grown-keeps g y k)

  pub grown-same : {P : ℕ → Type 0} {marks : List ℕ} {top : ℕ} {m : List ℕ} {t : ℕ} → Grown heap P marks top m t → length m ≡ length marks
  grown-same none = refl
  grown-same (more {m = m} {t = t} g x p h e) = length-set m x (t + 1) ∙ grown-same g
  grown-same (leaf {m = m} g x p h e n) = length-set m x 1 ∙ grown-same g

  -- only cells of P are new
  pub grown-sound : {P : ℕ → Type 0} {marks : List ℕ} {top : ℕ} {m : List ℕ} {t : ℕ} → Grown heap P marks top m t → (y : ℕ) → Marked m y → P y ⊎ Marked marks y
  grown-sound none y k = inr k
  grown-sound {P} (more {m = m} {t = t} g x p h e) y k =
      ⊎_elim (λ q. inl (subst P (sym q) p)) (λ o. grown-sound g y o) (set_cases m x (t + 1) y k)
  grown-sound {P} (leaf {m = m} g x p h e n) y k =
      ⊎_elim (λ q. inl (subst P (sym q) p)) (λ o. grown-sound g y o) (set_cases m x 1 y k)

  pub grown-map : {P Q : ℕ → Type 0} {marks : List ℕ} {top : ℕ} {m : List ℕ} {t : ℕ} → ((x : ℕ) → P x → Q x) → Grown heap P marks top m t → Grown heap Q marks top m t
  grown-map f none = none
  grown-map f (more g x p h e) = more (grown-map f g) x (f x p) h e
  grown-map f (leaf g x p h e n) = leaf (grown-map f g) x (f x p) h e n

  pub grown-join : {P Q R : ℕ → Type 0} {marks : List ℕ} {top : ℕ} {m : List ℕ} {t : ℕ} {m' : List ℕ} {t' : ℕ} → ((x : ℕ) → P x → R x) → ((x : ℕ) → Q x → R x) → Grown heap P marks top m t → Grown heap Q m t m' t' → Grown heap R marks top m' t'
  grown-join f g a none = grown-map f a
  grown-join f g a (more b x p h e) = more (grown-join f g a b) x (g x p) h e
  grown-join f g a (leaf b x p h e n) = leaf (grown-join f g a b) x (g x p) h e n

  pub pushed-join : {P Q R : ℕ → Type 0} {marks : List ℕ} {top : ℕ} {m : List ℕ} {t : ℕ} {m' : List ℕ} {t' : ℕ} → ((x : ℕ) → P x → R x) → ((x : ℕ) → Q x → R x) → ((x : ℕ) → R x → P x ⊎ Q x) → Pushed heap P marks top m t → Pushed heap Q m t m' t' → Pushed heap R marks top m' t'
  pushed-join f g s a b = record {
    grown = grown-join f g a.grown b.grown;
    all = λ x r. ⊎_elim (λ p. grown-keeps b.grown x (a.all x p)) (λ q. b.all x q) (s x r);
    same = b.same ∙ a.same;
    small = λ h. omega (arith, a.same, b.small (omega (arith, a.same, a.small h)));
  }

  pub pushed-iff : {P Q : ℕ → Type 0} {marks : List ℕ} {top : ℕ} {m : List ℕ} {t : ℕ} → ((x : ℕ) → P x → Q x) → ((x : ℕ) → Q x → P x) → Pushed heap P marks top m t → Pushed heap Q marks top m t
  pushed-iff f g p = record { grown = grown-map f p.grown; all = λ x q. p.all x (g x q); same = p.same; small = p.small }

  -- what is left to push can be pushed
  pub pushable-part : {P Q : ℕ → Type 0} {marks : List ℕ} {top : ℕ} → Pushable heap P marks top → ((x : ℕ) → Q x → P x) → Pushable heap Q marks top
  pushable-part p f = record { inside = λ x q. p.inside x (f x q); deep = p.deep; small = p.small; low = p.low }

  pub pushable-after : {P Q : ℕ → Type 0} {marks : List ℕ} {top : ℕ} {m : List ℕ} {t : ℕ} → Pushable heap P marks top → Pushed heap Q marks top m t → Pushable heap P m t
  pushable-after p q = record {
    inside = λ x r. omega (arith, q.same, p.inside x r);
    deep = omega (arith, q.same, p.deep);
    small = omega (arith, q.same, p.small);
    low = omega (arith, q.same, q.small p.low);
  }

  -- cells that are marked already
  pub pushed-marked : {P : ℕ → Type 0} (marks : List ℕ) (top : ℕ) → ((x : ℕ) → P x → Marked marks x) → Pushed heap P marks top marks top
  pushed-marked marks top marked = record { grown = none; all = marked; same = refl; small = λ k. k }

  -- an empty set of cells
  pub pushed_none : {P : ℕ → Type 0} (marks : List ℕ) (top : ℕ) → ((x : ℕ) → P x → ⊥) → Pushed heap P marks top marks top
  pushed_none marks top no_cell_lem = pushed-marked marks top (λ x p. absurd (no_cell_lem x p))

  -- ---- one cell

  module _ (marks : List ℕ) (top x : ℕ) where
    pub pushed-old : get_or marks x 0 ≢ 0 → Pushed heap (λ (y : ℕ). y ≡ x) marks top marks top
    pushed-old n = pushed-marked marks top (λ y q. rw q (omega arith))

    module _ (h : x < length marks) (e : get_or marks x 0 ≡ 0) where
      pub pushed-new : Pushed heap (λ (y : ℕ). y ≡ x) marks top (set marks x (top + 1)) (x + 1)
      pushed-new = record {
        grown = more none x refl h e;
        all = set-marks marks x (top + 1) h (omega arith);
        same = length-set marks x (top + 1);
        small = λ k. omega arith;
      }

      pub pushed-leaf : Leaf heap x → Pushed heap (λ (y : ℕ). y ≡ x) marks top (set marks x 1) top
      pushed-leaf n = record { grown = leaf none x refl h e n; all = set-marks marks x 1 h (omega arith); same = length-set marks x 1; small = λ k. k }

  -- ---- a range of cells

  pub range_none : (marks : List ℕ) (top a : ℕ) → Pushed heap (Range a a) marks top marks top
  range_none marks top a = pushed_none marks top (λ y q. omega arith)

  pub range-more : {marks : List ℕ} {top : ℕ} {m : List ℕ} {t : ℕ} {m' : List ℕ} {t' : ℕ} (a x : ℕ) → a ≤ x → Pushed heap (Range a x) marks top m t → Pushed heap (λ (y : ℕ). y ≡ x) m t m' t' → Pushed heap (Range a (x + 1)) marks top m' t'
  range-more a x h = pushed-join (λ y r. omega arith) (λ y q. omega arith) split
    where
      split : (y : ℕ) → Range a (x + 1) y → Range a x y ⊎ (y ≡ x)
      split y r = elim (ℕ_discrete y x) [ yes q ↦ inr q | no n ↦ inl (omega arith) ]

  pub range-pair : {marks : List ℕ} {top : ℕ} {m : List ℕ} {t : ℕ} {m' : List ℕ} {t' : ℕ} (a z : ℕ) → z ≡ a + 1 → Pushed heap (λ (y : ℕ). y ≡ a) marks top m t → Pushed heap (λ (y : ℕ). y ≡ z) m t m' t' → Pushed heap (Range a (a + 2)) marks top m' t'
  range-pair a z e = pushed-join (λ y q. omega arith) (λ y q. omega arith) split
    where
      split : (y : ℕ) → Range a (a + 2) y → (y ≡ a) ⊎ (y ≡ z)
      split y r = elim (ℕ_discrete y a) [ yes q ↦ inl q | no n ↦ inr (omega arith) ]
