-- The texts of document 01, 'Listing program', are what the definitions say. Assumes nothing.
use mathlib.Core.Path.{◌≡◌, refl}
use mathlib.Core.List.{[], ◌∷◌}
use Rattle.machine.specs.declared.Area.TheVariants.{Stack, Trail}
use Rattle.machine.specs.Layout.{field}
use Rattle.machine.specs.Refusals.{nowhere, in_area, accepted}
use Rattle.text.specs.Decimal.{digits}
use Rattle.text.specs.Line.{ascii, spaced, numbers, line}
use Rattle.listing.specs.Text.{kept_line, area_lines, collected_text, place_text, refused_text, file_text}

-- Night A collected, whole
night-a : collected_text
    (record { verdict = accepted; cells_kept = 6; cells_dropped = 3; entries_kept = 2; entries_dropped = 1 })
    (record {
      control = 1 ∷ 258 ∷ 0 ∷ 4 ∷ 2 ∷ 6 ∷ 1 ∷ 2147483696 ∷ 0 ∷ [];
      stack = 0 ∷ 4294967295 ∷ 4 ∷ 108 ∷ 2 ∷ 258 ∷ 0 ∷ 4294967295 ∷ 0 ∷ 3 ∷ 1 ∷ 32 ∷ [];
      heap = 20524 ∷ 48 ∷ 156 ∷ 72 ∷ 76 ∷ 12 ∷ 0 ∷ 0 ∷ 0 ∷ [];
      trail = 1 ∷ 134217731 ∷ 0 ∷ [];
    })
    ≡ ascii "kept 6 3 trail 2 1\ncontrol 1 258 0 4 2 6 1 2147483696\nstack 0 4294967295 4 108 2 258 0 4294967295 0 3 1 32\nheap 20524 48 156 72 76 12\ntrail 1 134217731\nend\n"
unfolding digits field spaced numbers line kept_line area_lines collected_text
night-a = refl

-- "An empty area is its word alone."
empty-area : line (ascii "heap") [] ≡ ascii "heap\n"
unfolding numbers line
empty-area = refl

-- "as `refused 7 trail 0`"
refused-placed : refused_text 7 (in_area Trail 0) ≡ ascii "refused 7 trail 0\n"
unfolding digits spaced place_text refused_text
refused-placed = refl

-- a place outside the stack
refused-outside : refused_text 3 (in_area Stack 4294967294) ≡ ascii "refused 3 stack 4294967294\n"
unfolding digits spaced place_text refused_text
refused-outside = refl

refused-alone : refused_text 2 nowhere ≡ ascii "refused 2\n"
unfolding digits spaced place_text refused_text
refused-alone = refl

bad-file : file_text 13 19248 ≡ ascii "file 13 19248\n"
unfolding digits spaced file_text
bad-file = refl
