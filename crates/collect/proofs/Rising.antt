-- The choice points of the chain fall along the stack, and their T's with them: so the T fields rise with their index. Assumes nothing.
use Prim.Native.Nat.{ℕ, ◌≤◌}
use mathlib.Core.Path.{◌≡◌, refl, subst}
use mathlib.Core.Logic.{◌≢◌, ◌⊎◌, inl, inr, ⊎_elim}
use native.Mathlib.Omega.{arith}
use Rattle.machine.specs.Layout.{Image, B, T, none, reg, at}
use Rattle.machine.proofs.Chains.{Point, newest, older, Linked}

-- c is b or an older one
pub data From (X : Image) (b : ℕ) : ℕ → Type 0 where
  same : From X b b
  further : {c : ℕ} → From X b c → at X c B ≢ none → From X b (at X c B)

module _ {X : Image} (k : Linked X) where
  from-point : {b c : ℕ} → Point X b → From X b c → Point X c
  from-point p same = p
  from-point p (further f n) = older (from-point p f) n

  -- of two choice points one is older than the other
  newest-first : {c : ℕ} (n : reg X B ≢ none) → Point X c → From X (reg X B) c
  newest-first n (newest m) = same
  newest-first n (older p m) = further (newest-first n p) m

  from-older : {b c : ℕ} → From X b c → (b ≡ c) ⊎ ((at X b B ≢ none) × From X (at X b B) c)
  from-older same = inl refl
  from-older (further f n) =
      ⊎_elim
      (λ e. inr (rw e n, rw e same))
      (λ r. inr (r.0, further r.1 n))
      (from-older f)

  pub in-line : {b c : ℕ} → Point X b → Point X c → From X b c ⊎ From X c b
  in-line (newest n) q = inl (newest-first n q)
  in-line (older {b = a} p n) q =
      ⊎_elim
      (λ f. ⊎_elim (λ e. inr (subst (λ (x : ℕ). From X x (at X a B)) e (further same n))) (λ r. inl r.1) (from-older f))
      (λ f. inr (further f n))
      (in-line p q)

  -- an older one lies below and has no larger T
  pub from_low : {b c : ℕ} → Point X b → From X b c → (c ≤ b) × (at X c T ≤ at X b T)
  from_low p same = (omega arith, omega arith)
  from_low {b} p (further {c = c} f n) =
      let r = from_low p f in
      let o = k.older c (from-point p f) n in
      (omega (arith, r.0, o.ends), omega (arith, r.1, o.trail))

  pub trail-rises : (b c : ℕ) → Point X b → Point X c → b ≤ c → at X b T ≤ at X c T
  trail-rises b c p q l =
      ⊎_elim
      (λ f. let r = from_low p f in let e : b ≡ c = omega (arith, r.0) in rw e (omega arith))
      (λ f. (from_low q f).1)
      (in-line p q)
