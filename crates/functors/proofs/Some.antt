-- Laws of `some_of`: it is decided at its ends, by the members alone, and by the counts before and behind. Assumes nothing.
use Prim.Native.Nat.{ℕ, ◌+◌, ◌≤◌, ◌<◌}
use mathlib.Core.Path.{◌≡◌, sym, ap, ◌∙◌}
use mathlib.Core.Logic.{inl, inr}
use mathlib.Core.Bool.{Bool, false, ◌||◌, not}
use native.Mathlib.Omega.{arith}
use native.Mathlib.Decide.{ℕ_discrete}
use borrow.Author.Tests.{eq-eqb, ne_eqb}
use lib.Dec.{eqb, ltb}
use Rattle.machine.specs.Refusals.{some_of}
use Rattle.machine.specs.Moved.{below}
use Rattle.machine.proofs.Tests.{either, same_bool, or_cases, or_left, or_right}
use Rattle.machine.proofs.Firsts.{first-same}
use Rattle.machine.proofs.Below.{below-mono, below-lt, below-gap}
use Rattle.machine.proofs.FirstCells.{some-found, found_some, none_of, of_none}

module _ (test : ℕ → Bool) where
  pub some-none : (i : ℕ) → some_of test i 0 ≡ false
  some-none i = of_none test i 0 (λ j a b. absurd (omega arith))

  pub some_more : (i n : ℕ) → some_of test i (n + 1) ≡ (some_of test i n || test (i + n))
  some_more i n =
      same_bool _ _
      (λ e.
      let f = some-found test i (n + 1) e in
      elim (ℕ_discrete f.at (i + n)) [
        | yes q ↦ or_right (some_of test i n) _ (sym (ap test q) ∙ f.passes)
        | no q ↦ or_left _ _ (found_some test i n (record { at = f.at; least = f.least; low = omega (arith, f.low); passes = f.passes }))
      ])
      (λ e.
      elim (or_cases (some_of test i n) _ e) [
        | inl q ↦ let f = some-found test i n q in found_some test i (n + 1) (record { at = f.at; least = f.least; low = omega (arith, f.low); passes = f.passes })
        | inr q ↦ found_some test i (n + 1) (record { at = i + n; least = omega arith; low = omega arith; passes = q })
      ])

  pub some_one : (i : ℕ) → some_of test i 1 ≡ test i
  some_one i = let z : i + 0 ≡ i = omega arith in some_more i 0 ∙ rw (some-none i, z)

  pub some-two : (i : ℕ) → some_of test i 2 ≡ (test i || test (i + 1))
  some-two i = some_more i 1 ∙ ap (λ (b : Bool). b || test (i + 1)) (some_one i)

  -- a member lies between two numbers exactly where their counts differ
  pub some_below : (i n : ℕ) → some_of test i n ≡ not (eqb (below test i) (below test (i + n)))
  some_below i n =
      elim (either (some_of test i n)) [
        | inl e ↦
            let f = some-found test i n e in
            e ∙ sym (ap not (ne_eqb (below test i) (below test (i + n)) (λ q. omega (arith, below-mono test i f.at f.least, below-lt test f.at (i + n) f.low f.passes))))
        | inr e ↦ e ∙ sym (ap not (eq-eqb (below test i) (below test (i + n)) (sym (below-gap test i n (none_of test i n e)))))
      ]

-- tests that agree
pub some_same : (test test' : ℕ → Bool) (i n : ℕ) → ((j : ℕ) → i ≤ j → j < i + n → test j ≡ test' j) → some_of test i n ≡ some_of test' i n
some_same test test' i n f = ap (λ (m : ℕ). ltb m (i + n)) (first-same test test' i n f)
