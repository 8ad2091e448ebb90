-- What the library says of `all` and `find` over a range from 0, said by a test of the index. Assumes nothing.
use denote.Param.Members.{Mut}
use denote.Ref.{Bor}
use mathlib.Core.Path.{◌≡◌, sym, subst}
use Rattle.std.specs.Prelude.{ℕ, ◌≤◌, ◌<◌, Bool, true, false, List, length, Option, Some, None, MatchBool, MatchOption}
use Rattle.std.proofs.Common.{arith}
use Rattle.std.specs.declared.ops.Range.{Range}
use Rattle.std.specs.Bool.{⊤}
use Rattle.std.specs.Fn.{Called, CalledAt}
use Rattle.std.specs.Iterator.{YieldsThen}
use Rattle.std.specs.List.{range_with_len, FoldsTo, AllWithin, HoldsAt}
use Rattle.std.proofs.iter.Yields.{nat_range_steps}
use Rattle.std.proofs.lemmas.Iterator.{cases_from_all, first_from_Range, YieldsList-from_range}
use Rattle.std.proofs.lemmas.List.FromFn.{get_or-range_with_len, length-range_with_len}
use Rattle.machine.specs.Lowest.{Lowest}
use Rattle.cells.specs.Cells.{Every}

module _ (test : ℕ → Bool) (n : ℕ) where
  at : (b : Bool) (k : ℕ) → k < n → HoldsAt (λ i. test i ≡ b) (range_with_len 0 n) k → test k ≡ b
  at b k l h = subst (λ (j : ℕ). test j ≡ b) (omega (arith, get_or-range_with_len 0 n k 0 l)) (h 0)

  every : (r : Bool) → MatchBool r (AllWithin (λ i. test i ≡ true) (range_with_len 0 n) 0 (length (range_with_len 0 n))) ((k : ℕ) × (k < length (range_with_len 0 n)) × HoldsAt (λ i. test i ≡ false) (range_with_len 0 n) k) → Every test n r
  every true h = λ i l. at true i l (λ d. h i d (omega arith) (omega (arith, length-range_with_len 0 n)))
  every false h = let l : h.0 < n = omega (arith, h.1, length-range_with_len 0 n) in (h.0, l, at false h.0 l h.2)

  lowest : (o : Option ℕ) → MatchOption o ((k : ℕ) → 0 ≤ k → k < n → test k ≡ false) (λ i. (0 ≤ i) × (i < n) × (test i ≡ true) × ((k : ℕ) → 0 ≤ k → k < i → test k ≡ false)) → Lowest test n o
  lowest None h = λ i l. h i (omega arith) l
  lowest (Some i) h = (h.1, h.2, λ j l. h.3 j (omega arith) l)

  module _ {F : Type 0} {s : Range ℕ} (e : s ≡ record { start = 0; end = n }) (u : Range ℕ) (f : F) where
    pub every-all : {g : Mut F (ℕ × Unit {0}) Bool} (r : Bool) → (xs : List ℕ) × (o : Option ℕ) × (j : F) × YieldsThen nat_range_steps s xs o u × FoldsTo (λ p x q. Called g p (x, tt) true q) f xs j × MatchOption o (r ≡ true) (λ x. (r ≡ false) × ((h : F) × Called g j (x, tt) false h)) → ((x : ℕ) (b : Bool) (q : F) → Called g f (x, tt) b q → (q ≡ f) × (b ≡ test x)) → Every test n r
    every-all r ran one = every r (cases_from_all u f _ (λ i. test i ≡ true) (λ i. test i ≡ false) ran (YieldsList-from_range 0 n n e (omega arith)) (λ x q k. let o = one x true q k in (o.0, sym o.1)) (λ x q k. sym (one x false q k).1))

    pub lowest-find : {g : Mut F (Bor ℕ × Unit {0}) Bool} (r : Option ℕ) → (xs : List ℕ) × (j : F) × YieldsThen nat_range_steps s xs r u × FoldsTo (λ p x q. CalledAt g p x false q) f xs j × MatchOption r ⊤ (λ x. (h : F) × CalledAt g j x true h) → ((x : ℕ) (b : Bool) (q : F) → CalledAt g f x b q → (q ≡ f) × (b ≡ test x)) → Lowest test n r
    lowest-find r ran one =
        lowest r
        (subst (λ (t : Range ℕ). MatchOption r ((k : ℕ) → t.start ≤ k → k < t.end → test k ≡ false) (λ i. (t.start ≤ i) × (i < t.end) × (test i ≡ true) × ((k : ℕ) → t.start ≤ k → k < i → test k ≡ false)))
        e
        (first_from_Range s u f r (λ i. test i ≡ true) (λ i. test i ≡ false) ran (λ x q k. sym (one x true q k).1) (λ x q k. let o = one x false q k in (o.0, sym o.1))))
