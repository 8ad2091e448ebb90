-- The text of a listing. Document 01, 'Listing program'. Assumes nothing.
use Rattle.std.specs.Prelude.{ℕ, ◌+◌, List, [], ◌++◌, take}
use Rattle.machine.specs.declared.Area.{Area}
use Rattle.machine.specs.declared.Area.TheVariants.{Heap, Stack, Control, Trail}
use Rattle.machine.specs.Layout.{Image, T, H, N, fixed, reg}
use Rattle.machine.specs.Refusals.{Where, nowhere, in_area}
use Rattle.machine.specs.Answers.{Answer}
use Rattle.text.specs.Line.{ascii, spaced, line}

-- "First line: cells kept, dropped, entries kept, dropped."
unfoldable pub kept_line : Answer → List ℕ
kept_line answer =
    ascii "kept"
    ++ (spaced answer.cells_kept
    ++ (spaced answer.cells_dropped
    ++ (ascii " trail" ++ (spaced answer.entries_kept ++ (spaced answer.entries_dropped ++ ascii "\n")))))

-- "Then each area's words after collecting: control below 7 + n, the counted stack whole, heap below H, trail below T."
unfoldable pub area_lines : Image → List ℕ
area_lines Y =
    line (ascii "control") (take (fixed + reg Y N) Y.control)
    ++ (line (ascii "stack") Y.stack
    ++ (line (ascii "heap") (take (reg Y H) Y.heap) ++ line (ascii "trail") (take (reg Y T) Y.trail)))

-- a collection's answer and the image that it left
unfoldable pub collected_text : Answer → Image → List ℕ
collected_text answer Y = kept_line answer ++ (area_lines Y ++ ascii "end\n")

abbrev pub name_of : Area → List ℕ
name_of Heap = ascii "heap"
name_of Stack = ascii "stack"
name_of Control = ascii "control"
name_of Trail = ascii "trail"

unfoldable pub place_text : Where → List ℕ
place_text nowhere = []
place_text (in_area area index) = ascii " " ++ (name_of area ++ spaced index)

-- "A refusal prints one line: `refused`, number, then area and index if any, as `refused 7 trail 0`."
unfoldable pub refused_text : ℕ → Where → List ℕ
refused_text number place = ascii "refused" ++ (spaced number ++ (place_text place ++ ascii "\n"))

-- "A bad file: `file`, number, offset."
unfoldable pub file_text : ℕ → ℕ → List ℕ
file_text number offset = ascii "file" ++ (spaced number ++ (spaced offset ++ ascii "\n"))
