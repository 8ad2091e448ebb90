-- The program's argument: a heap index in decimal. Document 02, order 4, and docs/WHY.md. Assumes nothing.
use Rattle.std.specs.Prelude.{ℕ, ◌+◌, Bool, true, false, ◌&&◌, List, [], ◌∷◌, length, leb, ltb, Option, Some, None}
use Rattle.text.specs.Decimal.{zero_digit, base, read_on}

abbrev pub is_digit : ℕ → Bool
is_digit d = leb zero_digit d && ltb d (zero_digit + base)

-- one digit or more, and nothing else
unfoldable pub all_digits : List ℕ → Bool
all_digits [] = true
all_digits (d ∷ ds) = is_digit d && all_digits ds

-- an index is a word
abbrev pub word_limit : ℕ
word_limit = 4294967296

unfoldable pub is_index : List ℕ → Bool
is_index text = leb 1 (length text) && (all_digits text && ltb (read_on 0 text) word_limit)

abbrev pub index_if : Bool → ℕ → Option ℕ
index_if true n = Some n
index_if false n = None

unfoldable pub asked_of : List ℕ → Option ℕ
asked_of text = index_if (is_index text) (read_on 0 text)
