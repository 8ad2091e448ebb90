-- The first of several files laid end to end. Document 02, order 1: "a month of freeze files laid end to end". Assumes nothing.
use Rattle.std.specs.Prelude.{ℕ, ◌+◌, min, cond, List, length, take, replicate}
use Rattle.machine.specs.Layout.{Image, fixed, arguments_most}
use Rattle.freeze.specs.declared.AreaCounts.{AreaCounts}
use Rattle.freeze.specs.Thaw.{counts_in, image_in, within, control_at, past_end}
use Rattle.tally.specs.Totals.{heap_cells, stack_words, trail_entries}

-- "Each file has the listing program's sizes."
abbrev pub sizes : AreaCounts
sizes = record { control = fixed + arguments_most; stack = stack_words; heap = heap_cells; trail = trail_entries }

-- the room for a file in lent areas: those sizes, or what is lent where that is less
unfoldable pub room_of : Image → AreaCounts
room_of lent = record {
  control = min (length lent.control) sizes.control;
  stack = min (length lent.stack) sizes.stack;
  heap = min (length lent.heap) sizes.heap;
  trail = min (length lent.trail) sizes.trail;
}

-- areas with that room
unfoldable pub areas_of : AreaCounts → Image
areas_of room = record {
  control = replicate room.control 0;
  stack = replicate room.stack 0;
  heap = replicate room.heap 0;
  trail = replicate room.trail 0;
}

-- how many bytes the first file has: what its counts record says; where that is more than there is room for, the record alone, by which
-- the file is refused
unfoldable pub span : AreaCounts → List ℕ → ℕ
span room rest = cond (within (counts_in rest) room) (past_end (counts_in rest)) control_at

-- the bytes of the first file, fewer where the input is cut, and none at its end
abbrev pub first_file : AreaCounts → List ℕ → List ℕ
first_file room rest = take (span room rest) rest

-- no file has more: `past_end sizes`
abbrev pub file_most : ℕ
file_most = 19248

-- the image that a file holds
abbrev pub image_of_file : List ℕ → Image
image_of_file file = image_in (counts_in file) file
