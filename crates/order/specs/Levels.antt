-- The levels of the queue: cells that the roots refer to, cells that those refer to, and so on. `begins` is 1 at the places where a level begins.
-- Assumes nothing.
use Rattle.std.specs.Prelude.{ℕ, zero, suc, ◌+◌, ◌-◌, ◌<◌, ◌≤◌, ◌≡◌, List, length, get_or}

-- the level of place j begins at a
pub record Starts (begins : ℕ → ℕ) (a j : ℕ) : Type 0 where
  pub low : a ≤ j
  pub here : begins a ≡ 1
  pub last : (i : ℕ) → a < i → i ≤ j → begins i ≡ 0

-- how many levels begin below j
unfoldable pub levels : (ℕ → ℕ) → ℕ → ℕ
levels begins zero = 0
levels begins (suc j) = levels begins j + begins j

-- what the first level's cells came from are roots; the others came from cells of the level above
pub record Levelled (begins : ℕ → ℕ) (roots : ℕ) (from : List ℕ) : Type 0 where
  pub bit : (j : ℕ) → j < length from → begins j ≤ 1
  pub top : 0 < length from → begins 0 ≡ 1
  pub first : (j : ℕ) → j < length from → Starts begins 0 j → get_or from j 0 < roots
  pub above : (a b j : ℕ) → j < length from → Starts begins b j → 0 < b → Starts begins a (b - 1)
      → (roots + a ≤ get_or from j 0) × (get_or from j 0 < roots + b)
