-- The lowest index below n that a test holds of, as an answer that may be none. Assumes nothing.
use Rattle.std.specs.Prelude.{ℕ, ◌≡◌, ◌<◌, Bool, true, false, Option, MatchOption}

abbrev pub Lowest : (ℕ → Bool) → ℕ → Option ℕ → Type 0
Lowest bad n r = MatchOption r ((i : ℕ) → i < n → bad i ≡ false) (λ i. (i < n) × (bad i ≡ true) × ((j : ℕ) → j < i → bad j ≡ false))
