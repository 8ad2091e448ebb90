-- Cells and sources one after the other: what they keep. Assumes nothing.
use Prim.Native.Nat.{ℕ, ◌+◌, ◌≤◌, ◌<◌}
use mathlib.Core.Path.{◌≡◌, refl, sym, ◌∙◌, subst}
use mathlib.Core.List.{List}
use native.Mathlib.Omega.{arith}
use lib.ListN.{get_or, length}
use Rattle.mark.specs.Pending.{Range}
use Rattle.queue.specs.Filled.{level_bit}
use Rattle.queue.specs.Entering.{Fit, Joined, old, new, Entered, none, more, Readable, Read, ReadAll}
use Rattle.queue.proofs.Puts.{place, put-length, put-level, fit-put}

-- ---- cells joined one after the other

pub joined_length : {q : List ℕ} {t x : ℕ} {q' : List ℕ} {t' : ℕ} → Joined q t x q' t' → length q' ≡ length q
joined_length (old e) = refl
joined_length {q} {t = t} {x = x} (new e) = put-length q t x

pub joined-fit : {q : List ℕ} {t x : ℕ} {q' : List ℕ} {t' : ℕ} → Fit q t → x < length q → Joined q t x q' t' → Fit q' t'
joined-fit f h (old e) = f
joined-fit {q} {t = t} {x = x} f h (new e) = fit-put q t x f h e

joined-level : {q : List ℕ} {t x : ℕ} {q' : List ℕ} {t' : ℕ} → Fit q t → x < length q → Joined q t x q' t' → (j : ℕ) → level_bit (get_or q' j 0) ≡ level_bit (get_or q j 0)
joined-level f h (old e) j = refl
joined-level {q} {t = t} {x = x} f h (new e) j = put-level q t x h (place q t x f h e) e j

joined-tail : {q : List ℕ} {t x : ℕ} {q' : List ℕ} {t' : ℕ} → Joined q t x q' t' → t ≤ t'
joined-tail (old e) = omega arith
joined-tail (new e) = omega arith

module _ {a t : ℕ} {q : List ℕ} where
  pub entered-length : {z t' : ℕ} {q' : List ℕ} → Entered a q t z q' t' → length q' ≡ length q
  entered-length none = refl
  entered-length (more g i) = joined_length i ∙ entered-length g

  pub entered-past : {z t' : ℕ} {q' : List ℕ} → Entered a q t z q' t' → a ≤ z
  entered-past none = omega arith
  entered-past (more g i) = omega (arith, entered-past g)

  pub entered-tail : {z t' : ℕ} {q' : List ℕ} → Entered a q t z q' t' → t ≤ t'
  entered-tail none = omega arith
  entered-tail (more g i) = omega (arith, entered-tail g, joined-tail i)

  module _ (f : Fit q t) where
    pub entered-fit : {z t' : ℕ} {q' : List ℕ} → ((y : ℕ) → Range a z y → y < length q) → Entered a q t z q' t' → Fit q' t'
    entered-fit l none = f
    entered-fit l (more {x = x} g i) =
        joined-fit (entered-fit (λ y r. l y (omega arith)) g) (omega (arith, entered-length g, l x (omega (arith, entered-past g)))) i

    pub entered-level : {z t' : ℕ} {q' : List ℕ} → ((y : ℕ) → Range a z y → y < length q) → Entered a q t z q' t' → (j : ℕ) → level_bit (get_or q' j 0) ≡ level_bit (get_or q j 0)
    entered-level l none j = refl
    entered-level l (more {x = x} g i) j =
        let before : (y : ℕ) → Range a x y → y < length q = λ y r. l y (omega arith) in
        joined-level (entered-fit before g) (omega (arith, entered-length g, l x (omega (arith, entered-past g)))) i j ∙ entered-level before g j

-- ---- sources read one after the other

pub all-length : {heap q : List ℕ} {word : ℕ → ℕ} {t m : ℕ} {q' : List ℕ} {t' : ℕ} → ReadAll heap word q t m q' t' → length q' ≡ length q
all-length none = refl
all-length (more g i) = entered-length i ∙ all-length g

-- the source n is the word w
pub all_more : {heap q q₁ q' : List ℕ} {word : ℕ → ℕ} {t t₁ t' : ℕ} (n w : ℕ) → word n ≡ w → ReadAll heap word q t n q₁ t₁ → Read heap w q₁ t₁ q' t' → ReadAll heap word q t (n + 1) q' t'
all_more {heap} {q₁ = q₁} {q' = q'} {t₁ = t₁} {t' = t'} n w e g i =
    more g (subst (λ (v : ℕ). Read heap v q₁ t₁ q' t') (sym e) i)

module _ {heap : List ℕ} {word : ℕ → ℕ} {n t : ℕ} {q : List ℕ} (k : Readable heap word n q t) where
  pub readable-after : {m t' : ℕ} {q' : List ℕ} → m ≤ n → ReadAll heap word q t m q' t' → Readable heap word n q' t'
  readable-after l none = k
  readable-after l (more {n = m} g i) =
      let b = readable-after (omega arith) g in
      let e = entered-length i in
      record {
        fit = entered-fit b.fit (b.within m (omega arith)) i;
        deep = omega (arith, b.deep);
        within = λ s h x r. omega (arith, b.within s h x r);
      }

  pub all-level : {m t' : ℕ} {q' : List ℕ} → m ≤ n → ReadAll heap word q t m q' t' → (j : ℕ) → level_bit (get_or q' j 0) ≡ level_bit (get_or q j 0)
  all-level l none j = refl
  all-level l (more {n = m} g i) j =
      let b = readable-after (omega arith) g in
      entered-level b.fit (b.within m (omega arith)) i j ∙ all-level (omega arith) g j
