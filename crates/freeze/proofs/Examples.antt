-- Worked files, computed by antt from the definitions: Night A's 178 bytes, there and back, and a smallest file for each refusal of
-- the reader. The bytes are those of the folder examples/. Assumes nothing.
use Prim.Native.Nat.{ℕ}
use mathlib.Core.Path.{◌≡◌, refl}
use mathlib.Core.List.{List, [], ◌∷◌, ◌++◌}
use lib.ListN.{length, take, replicate}
use Rattle.machine.specs.Layout.{Image, field}
use Rattle.machine.specs.Refusals.{legal_sizes, fits}
use Rattle.freeze.specs.Kinds.{body_of, used}
use Rattle.freeze.specs.Verdicts.{accepted, refused, verdict_of, or_else, first_of, if_accepted}
use Rattle.freeze.specs.Records.{record_verdict, record_at, records_verdict, number_at, words}
use Rattle.freeze.specs.Thaw.{counts_of, within, counts_in, image_in, agree, thaw_verdict, image_of}
use Rattle.freeze.specs.Freeze.{records, counts_record, file_of, frozen, freeze_verdict}

-- "Night A, before"
night_a : Image
night_a = record {
  control = 1 ∷ 258 ∷ 0 ∷ 4 ∷ 3 ∷ 9 ∷ 1 ∷ 2147483696 ∷ [];
  stack = 0 ∷ 4294967295 ∷ 20 ∷ 108 ∷ 2 ∷ 258 ∷ 0 ∷ 4294967295 ∷ 0 ∷ 5 ∷ 1 ∷ 48 ∷ [];
  heap = 124 ∷ 20524 ∷ 96 ∷ 156 ∷ 112 ∷ 28 ∷ 120 ∷ 76 ∷ 12 ∷ [];
  trail = 2 ∷ 4 ∷ 134217731 ∷ [];
}

night_file : List ℕ
night_file =
    1 ∷ 8 ∷ 0 ∷ 0 ∷ 0 ∷ 12 ∷ 0 ∷ 0 ∷ 0 ∷ 9 ∷ 0 ∷ 0 ∷ 0 ∷ 3 ∷ 0 ∷ 0 ∷ 0
    ∷ 2 ∷ 1 ∷ 0 ∷ 0 ∷ 0 ∷ 2 ∷ 2 ∷ 1 ∷ 0 ∷ 0 ∷ 2 ∷ 0 ∷ 0 ∷ 0 ∷ 0 ∷ 2 ∷ 4 ∷ 0 ∷ 0 ∷ 0 ∷ 2 ∷ 3 ∷ 0 ∷ 0 ∷ 0 ∷ 2 ∷ 9 ∷ 0 ∷ 0 ∷ 0
    ∷ 2 ∷ 1 ∷ 0 ∷ 0 ∷ 0 ∷ 2 ∷ 48 ∷ 0 ∷ 0 ∷ 128 ∷ 3 ∷ 0 ∷ 0 ∷ 0 ∷ 0 ∷ 3 ∷ 255 ∷ 255 ∷ 255 ∷ 255 ∷ 3 ∷ 20 ∷ 0 ∷ 0 ∷ 0 ∷ 3 ∷ 108 ∷ 0 ∷ 0 ∷ 0
    ∷ 3 ∷ 2 ∷ 0 ∷ 0 ∷ 0 ∷ 3 ∷ 2 ∷ 1 ∷ 0 ∷ 0 ∷ 3 ∷ 0 ∷ 0 ∷ 0 ∷ 0 ∷ 3 ∷ 255 ∷ 255 ∷ 255 ∷ 255 ∷ 3 ∷ 0 ∷ 0 ∷ 0 ∷ 0 ∷ 3 ∷ 5 ∷ 0 ∷ 0 ∷ 0
    ∷ 3 ∷ 1 ∷ 0 ∷ 0 ∷ 0 ∷ 3 ∷ 48 ∷ 0 ∷ 0 ∷ 0 ∷ 4 ∷ 124 ∷ 0 ∷ 0 ∷ 0 ∷ 4 ∷ 44 ∷ 80 ∷ 0 ∷ 0 ∷ 4 ∷ 96 ∷ 0 ∷ 0 ∷ 0 ∷ 4 ∷ 156 ∷ 0 ∷ 0 ∷ 0
    ∷ 4 ∷ 112 ∷ 0 ∷ 0 ∷ 0 ∷ 4 ∷ 28 ∷ 0 ∷ 0 ∷ 0 ∷ 4 ∷ 120 ∷ 0 ∷ 0 ∷ 0 ∷ 4 ∷ 76 ∷ 0 ∷ 0 ∷ 0 ∷ 4 ∷ 12 ∷ 0 ∷ 0 ∷ 0 ∷ 5 ∷ 2 ∷ 0 ∷ 0 ∷ 0
    ∷ 5 ∷ 4 ∷ 0 ∷ 0 ∷ 0 ∷ 5 ∷ 3 ∷ 0 ∷ 0 ∷ 8 ∷ 6
    ∷ []

-- areas of the listing program's sizes, and a file with no words at all, which has no end record yet
lent : Image
lent = image_of (replicate 262 0) (replicate 1024 0) (replicate 2048 0) (replicate 512 0)

no_words : List ℕ
no_words = 1 ∷ replicate 16 0

-- all that these tests compute with
opened : Unit {0}
unfolding field legal_sizes fits body_of used verdict_of or_else first_of if_accepted record_verdict record_at records_verdict number_at words counts_of within counts_in image_in agree thaw_verdict records counts_record file_of freeze_verdict night_a night_file lent no_words
opened = tt

night-is-written : frozen night_a ≡ night_file
unfolding opened
night-is-written = refl

-- "Its file has 178 bytes."
night-has-178 : length night_file ≡ 178
unfolding opened
night-has-178 = refl

night-is-accepted : thaw_verdict lent night_file ≡ accepted
unfolding opened
night-is-accepted = refl

night-is-read : image_in (counts_in night_file) night_file ≡ night_a
unfolding opened
night-is-read = refl

-- 1: six control words are lent
sizes : thaw_verdict (image_of (replicate 6 0) [] [] []) night_file ≡ refused 1 0
unfolding opened
sizes = refl

-- "Empty file: 10 at 0."
empty : thaw_verdict lent [] ≡ refused 10 0
unfolding opened
empty = refl

-- the last byte is gone: no record has begun there
no_end : thaw_verdict lent (take 177 night_file) ≡ refused 10 177
unfolding opened
no_end = refl

-- the last trail word is cut
cut_word : thaw_verdict lent (take 175 night_file) ≡ refused 10 172
unfolding opened
cut_word = refl

other-kind : thaw_verdict lent (0 ∷ []) ≡ refused 11 0
unfolding opened
other-kind = refl

-- a wrong kind, whose body is cut as well
kind-before-cut : thaw_verdict lent (take 172 night_file ++ (4 ∷ 0 ∷ [])) ≡ refused 11 172
unfolding opened
kind-before-cut = refl

count-above-room : thaw_verdict lent (1 ∷ replicate 16 255) ≡ refused 12 0
unfolding opened
count-above-room = refl

byte-after-end : thaw_verdict lent (no_words ++ (6 ∷ 0 ∷ [])) ≡ refused 13 18
unfolding opened
byte-after-end = refl

no-control-words : thaw_verdict lent (no_words ++ (6 ∷ [])) ≡ refused 14 0
unfolding opened
no-control-words = refl

-- 2: the heap is shorter than H; 15: one byte of output is missing
registers : freeze_verdict (record { control = night_a.control; stack = []; heap = []; trail = night_a.trail }) [] ≡ refused 2 0
unfolding opened
registers = refl

output-short : freeze_verdict night_a (replicate 177 0) ≡ refused 15 0
unfolding opened
output-short = refl

-- one record: a counts record, an unused kind within the table and one past it, no record at or past the end
counts-record : record_at night_file 0 ≡ record { verdict = accepted; kind = 1; body = 1; next = 17 }
unfolding opened
counts-record = refl

unused-kind : record_at (7 ∷ []) 0 ≡ record { verdict = refused 11 0; kind = 0; body = 0; next = 0 }
unfolding opened
unused-kind = refl

unused-past-table : record_at (255 ∷ []) 0 ≡ record { verdict = refused 11 0; kind = 0; body = 0; next = 0 }
unfolding opened
unused-past-table = refl

past_the_end : record_at night_file 1000 ≡ record { verdict = refused 10 178; kind = 0; body = 0; next = 0 }
unfolding opened
past_the_end = refl
