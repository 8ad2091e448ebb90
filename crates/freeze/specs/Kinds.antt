-- The kinds of record and how long the body of each is. Document 01, 'Freeze file'. Assumes nothing.
use Rattle.std.specs.Prelude.{ℕ, ◌+◌, ◌*◌, Bool, true, false, ◌&&◌, not, eqb, leb}

-- the first where the test holds, else the second
abbrev pub pick : {A : Type 0} → Bool → A → A → A
pick true a b = a
pick false a b = b

-- "1 .. counts: control, stack, heap, trail"
abbrev pub COUNTS : ℕ
COUNTS = 1

-- "2, 3, 4, 5 .. one control, stack, heap, trail word"
abbrev pub CONTROL : ℕ
CONTROL = 2

abbrev pub STACK : ℕ
STACK = 3

abbrev pub HEAP : ℕ
HEAP = 4

abbrev pub TRAIL : ℕ
TRAIL = 5

-- "6 .. end"
abbrev pub END : ℕ
END = 6

-- the bytes of one word
abbrev pub word_body : ℕ
word_body = 4

-- "Body lengths stand in one fixed table over kinds 0 to 31, unused kinds marked." No body is as long as the mark.
abbrev pub UNUSED : ℕ
UNUSED = 255

abbrev pub is_word : ℕ → Bool
is_word kind = leb CONTROL kind && leb kind TRAIL

-- "a body whose length the kind fixes": counts 16, a word 4, end 0
unfoldable pub body_of : ℕ → ℕ
body_of kind = pick (eqb kind COUNTS) 16 (pick (is_word kind) word_body (pick (eqb kind END) 0 UNUSED))

unfoldable pub used : ℕ → Bool
used kind = not (eqb (body_of kind) UNUSED)

-- "one byte of kind, then a body"
abbrev pub record_size : ℕ → ℕ
record_size kind = 1 + body_of kind

-- the offset after n records of one kind
abbrev pub past : ℕ → ℕ → ℕ → ℕ
past at kind n = at + n * record_size kind
