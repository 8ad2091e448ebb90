-- Bytes of a quoted text, numbers after a space, and a line of them. Document 01, 'Listing program'. Assumes nothing.
use Rattle.std.specs.Prelude.{ℕ, List, [], ◌∷◌, ◌++◌}
use Prim.Native.Char.{code}
use Prim.Native.String.{String, [] as none, ◌∷◌ as ◌then◌}
use Rattle.text.specs.Decimal.{decimal}

-- the bytes of a quoted text
abbrev pub ascii : String → List ℕ
ascii none = []
ascii (c then s) = code c ∷ ascii s

-- a number after one space, and each of a row of numbers so
unfoldable pub spaced : ℕ → List ℕ
spaced n = ascii " " ++ decimal n

unfoldable pub numbers : List ℕ → List ℕ
numbers [] = []
numbers (n ∷ ns) = spaced n ++ numbers ns

-- one line: a word, the numbers, and the byte that ends a line. "An empty area is its word alone."
unfoldable pub line : List ℕ → List ℕ → List ℕ
line word ns = word ++ (numbers ns ++ ascii "\n")
