-- What `find` answers over a range from 0 is the lowest index that its test holds of. Assumes nothing.
use Rattle.std.proofs.Common.{ℕ, ◌≡◌, ◌<◌, ◌≤◌, Bool, true, false, Option, Some, None, MatchOption, arith}
use Rattle.machine.specs.Lowest.{Lowest}

pub lowest-range : (bad : ℕ → Bool) (n : ℕ) (r : Option ℕ)
    → MatchOption r ((k : ℕ) → 0 ≤ k → k < n → bad k ≡ false) (λ i. (0 ≤ i) × (i < n) × (bad i ≡ true) × ((k : ℕ) → 0 ≤ k → k < i → bad k ≡ false))
    → Lowest bad n r
lowest-range bad n None f = λ i l. f i (omega arith) l
lowest-range bad n (Some i) f = (f.1, f.2, λ j l. f.3 j (omega arith) l)
