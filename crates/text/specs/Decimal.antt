-- A number in decimal. Document 01, 'Listing program', prints every number so. Assumes nothing.
use Rattle.std.specs.Prelude.{ℕ, zero, suc, ◌+◌, ◌-◌, ◌*◌, ◌/◌, ◌%◌, ◌≤◌, ◌<◌, ◌≡◌, ◌≢◌, cond, List, [], ◌∷◌, ◌++◌, length, get_or, ltb}

-- the byte of `0`; those of the other digits follow it in order
abbrev pub zero_digit : ℕ
zero_digit = 48

abbrev pub base : ℕ
base = 10

-- the last k digits of n, but none in front of its first: the last is n % 10, and those before it are the digits of n / 10
unfoldable pub digits : ℕ → ℕ → List ℕ
digits zero n = []
digits (suc k) n =
    let before = digits k (n / base) in
    cond (ltb n base) [] before ++ ((zero_digit + n % base) ∷ [])

-- all digits of n: there are no more than n + 1
abbrev pub decimal : ℕ → List ℕ
decimal n = digits (suc n) n

-- the number that a row of digits is read as, after the number read so far
unfoldable pub read_on : ℕ → List ℕ → ℕ
read_on n [] = n
read_on n (d ∷ ds) = read_on (n * base + (d - zero_digit)) ds

-- What makes a text the decimal form of n, and no other text is: it has digits only, it is read as n, and no zero leads it, but that 0
-- is `0`.
pub record IsDecimal (n : ℕ) (text : List ℕ) : Type 0 where
  pub digit : (i : ℕ) → i < length text → (zero_digit ≤ get_or text i 0) × (get_or text i 0 < zero_digit + base)
  pub value : read_on 0 text ≡ n
  pub none : n ≡ 0 → text ≡ zero_digit ∷ []
  pub leading : 0 < n → get_or text 0 0 ≢ zero_digit
