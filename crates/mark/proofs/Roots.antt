-- Pushing what the roots refer to, one root after the other. Assumes nothing.
use Prim.Native.Nat.{ℕ, ◌+◌}
use mathlib.Core.Path.{subst}
use mathlib.Core.Logic.{◌⊎◌, inl, inr, ⊎_elim}
use mathlib.Core.List.{List}
use native.Mathlib.Omega.{arith}
use native.Mathlib.Decide.{ℕ_discrete}
use lib.ListN.{get_or}
use Rattle.cell.specs.Word.{Refers}
use Rattle.mark.specs.Pending.{Pushed}
use Rattle.mark.specs.Roots.{Named}
use Rattle.mark.proofs.Stacks.{pushed-join, pushed-iff}

module _ {heap words : List ℕ} {Is : ℕ → Type 0} where
  wider : (n x : ℕ) → Named heap words Is n x → Named heap words Is (n + 1) x
  wider n x r = record { at = r.at; below = omega (arith, r.below); picked = r.picked; refers = r.refers }

  narrower : (n x : ℕ) → Named heap words Is (n + 1) x → Named heap words Is n x ⊎ (Is n × Refers heap (get_or words n 0) x)
  narrower n x r =
      elim (ℕ_discrete r.at n) [
        | yes q ↦ inr (subst (λ (i : ℕ). Is i × Refers heap (get_or words i 0) x) q (r.picked, r.refers))
        | no q ↦ inl (record { at = r.at; below = omega (arith, r.below); picked = r.picked; refers = r.refers })
      ]

  module _ {marks m : List ℕ} {top t n : ℕ} (p : Pushed heap (Named heap words Is n) marks top m t) where
    -- the word n is a root: what it refers to is pushed
    pub named_more : {m' : List ℕ} {t' : ℕ} → Is n → Pushed heap (Refers heap (get_or words n 0)) m t m' t' → Pushed heap (Named heap words Is (n + 1)) marks top m' t'
    named_more is q =
        pushed-join
        (wider n)
        (λ x r. record { at = n; below = omega arith; picked = is; refers = r })
        (λ x r. ⊎_elim (λ a. inl a) (λ b. inr b.1) (narrower n x r))
        p
        q

    -- the word n is no root
    pub named-skip : (Is n → ⊥) → Pushed heap (Named heap words Is (n + 1)) marks top m t
    named-skip no-root = pushed-iff (wider n) (λ x r. ⊎_elim (λ a. a) (λ b. absurd (no-root b.0)) (narrower n x r)) p
