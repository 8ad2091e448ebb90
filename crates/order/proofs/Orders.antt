-- The order of chains: by length, and among equals by the first place that differs. It is an order, and both its forms, strict and not, go on
-- when one more place is put at the end. By the places from the front. Assumes nothing.
use Prim.Native.Nat.{ℕ, ◌<◌}
use mathlib.Core.Path.{sym, ◌≡◌, refl, ap}
use mathlib.Core.Logic.{◌⊎◌, inl, inr}
use mathlib.Core.List.{List, [], ◌∷◌, ◌++◌}
use native.Mathlib.Omega.{arith}
use lib.ListN.{length, length-append}
use Rattle.order.specs.Chains.{NotAbove, ended, lower, same, NotAfter}

pub above-refl : (xs : List ℕ) → NotAbove xs xs
above-refl [] = ended
above-refl (x ∷ xs) = same (above-refl xs)

pub above-trans : {xs ys zs : List ℕ} → NotAbove xs ys → NotAbove ys zs → NotAbove xs zs
above-trans ended q = ended
above-trans (lower {x = x} l) (lower {y = z} m) = let h : x < z = omega arith in lower h
above-trans (lower l) (same q) = lower l
above-trans (same p) (lower m) = lower m
above-trans (same p) (same q) = same (above-trans p q)

-- the two ways round are taken between lists that are equal, so that both can be looked into at once
above-both : {xs ys zs ws : List ℕ} → NotAbove xs ys → NotAbove ws zs → xs ≡ zs → ys ≡ ws → xs ≡ ys
above-both ended ended e f = sym f
above-both ended (lower m) e f = cc
above-both ended (same q) e f = cc
above-both (lower l) ended e f = cc
above-both (lower {x = x} {y = y} l) (lower {x = z} {y = w} m) e f =
    let p : x ≡ w = cc in
    let q : y ≡ z = cc in
    absurd (omega arith)
above-both (lower {x = x} {y = y} l) (same {x = z} r) e f =
    let p : x ≡ z = cc in
    let q : y ≡ z = cc in
    absurd (omega arith)
above-both (same p) ended e f = cc
above-both (same {x = x} r) (lower {x = z} {y = w} m) e f =
    let p : x ≡ w = cc in
    let q : x ≡ z = cc in
    absurd (omega arith)
above-both (same {x = x} {xs = xs} {ys = ys} p) (same {xs = ws} {ys = zs} q) e f =
    let g : xs ≡ zs = cc in
    let h : ys ≡ ws = cc in
    ap (λ (l : List ℕ). x ∷ l) (above-both p q g h)

pub above-antisym : {xs ys : List ℕ} → NotAbove xs ys → NotAbove ys xs → xs ≡ ys
above-antisym p q = above-both p q refl refl

-- one more place at the end of both
pub above_more : {xs ys : List ℕ} (z : ℕ) → length xs ≡ length ys → NotAbove xs ys → NotAbove (xs ++ (z ∷ [])) (ys ++ (z ∷ []))
above_more z e (ended {ys = []}) = above-refl (z ∷ [])
above_more z e (ended {ys = y ∷ ys}) = absurd (omega arith)
above_more z e (lower l) = lower l
above_more z e (same p) = same (above_more z (omega arith) p)

-- the first place that differs is lower, and there is one
pub data Lower : List ℕ → List ℕ → Type 0 where
  here : {x y : ℕ} {xs ys : List ℕ} → x < y → Lower (x ∷ xs) (y ∷ ys)
  there : {x : ℕ} {xs ys : List ℕ} → Lower xs ys → Lower (x ∷ xs) (x ∷ ys)

pub lower-above : {xs ys : List ℕ} → Lower xs ys → NotAbove xs ys
lower-above (here l) = lower l
lower-above (there p) = same (lower-above p)

-- one more place at the end, whichever
pub lower-more : {xs ys : List ℕ} (x y : ℕ) → Lower xs ys → Lower (xs ++ (x ∷ [])) (ys ++ (y ∷ []))
lower-more x y (here l) = here l
lower-more x y (there p) = there (lower-more x y p)

pub lower-end : (xs : List ℕ) {x y : ℕ} → x < y → Lower (xs ++ (x ∷ [])) (xs ++ (y ∷ []))
lower-end [] l = here l
lower-end (z ∷ xs) l = there (lower-end xs l)

-- shorter, or as long and lower
abbrev pub Before : List ℕ → List ℕ → Type 0
Before xs ys = (length xs < length ys) ⊎ ((length xs ≡ length ys) × Lower xs ys)

pub before-after : {xs ys : List ℕ} → Before xs ys → NotAfter xs ys
before-after (inl l) = inl (omega arith)
before-after (inr p) = inr (p.0, lower-above p.1)

pub before_more : (xs ys : List ℕ) (x y : ℕ) → Before xs ys → Before (xs ++ (x ∷ [])) (ys ++ (y ∷ []))
before_more xs ys x y (inl l) = inl (omega (arith, length-append xs (x ∷ []), length-append ys (y ∷ [])))
before_more xs ys x y (inr p) = inr (omega (arith, length-append xs (x ∷ []), length-append ys (y ∷ [])), lower-more x y p.1)

pub before-end : (xs : List ℕ) (x y : ℕ) → x < y → Before (xs ++ (x ∷ [])) (xs ++ (y ∷ []))
before-end xs x y l = inr (omega (arith, length-append xs (x ∷ []), length-append xs (y ∷ [])), lower-end xs l)

pub after-refl : (xs : List ℕ) → NotAfter xs xs
after-refl xs = inr (refl, above-refl xs)

pub after-trans : (xs ys zs : List ℕ) → NotAfter xs ys → NotAfter ys zs → NotAfter xs zs
after-trans xs ys zs (inl l) (inl m) = inl (omega arith)
after-trans xs ys zs (inl l) (inr q) = inl (omega arith)
after-trans xs ys zs (inr p) (inl m) = inl (omega arith)
after-trans xs ys zs (inr p) (inr q) = inr (omega arith, above-trans p.1 q.1)

pub after-antisym : (xs ys : List ℕ) → NotAfter xs ys → NotAfter ys xs → xs ≡ ys
after-antisym xs ys (inl l) (inl m) = absurd (omega arith)
after-antisym xs ys (inl l) (inr q) = absurd (omega arith)
after-antisym xs ys (inr p) (inl m) = absurd (omega arith)
after-antisym xs ys (inr p) (inr q) = above-antisym p.1 q.1

pub after_more : (xs ys : List ℕ) (z : ℕ) → NotAfter xs ys → NotAfter (xs ++ (z ∷ [])) (ys ++ (z ∷ []))
after_more xs ys z (inl l) = inl (omega (arith, length-append xs (z ∷ []), length-append ys (z ∷ [])))
after_more xs ys z (inr p) = inr (omega (arith, length-append xs (z ∷ []), length-append ys (z ∷ [])), above_more z p.0 p.1)
