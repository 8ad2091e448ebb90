-- The part that an address names, as C reads it: an area, an index and a length. Document 01, '**Look-up.**'. Assumes nothing.
use Rattle.std.specs.Prelude.{ℕ, ◌-◌, ◌≡◌, Bool, true, false, List, length, take, drop, eqb}
use Rattle.cell.specs.Word.{stack_base}
use Rattle.machine.specs.declared.Area.TheVariants.{Heap, Stack}
use Rattle.machine.specs.Answers.{pick_words}
use Rattle.machine.specs.LookUp.{names_heap, names_stack, part_at}
use Rattle.engine.specs.declared.BikPart.{BikPart}
use Rattle.engine.specs.Reasons.{area_number}

abbrev pub pick_part : Bool → BikPart → BikPart → BikPart
pick_part true a b = a
pick_part false a b = b

-- the part of an area of so many words that begins at an index, up to the area's end
abbrev pub part_from : ℕ → ℕ → ℕ → BikPart
part_from area index words = record { area = area; index = index; length = words - index }

-- "the part of the heap or of the stack that begins there, up to that area's end. An address in neither gives the empty part at the
-- heap's start."
unfoldable pub part_of : List ℕ → List ℕ → ℕ → BikPart
part_of heap stack address =
    pick_part (names_heap heap address) (part_from (area_number Heap) address (length heap))
    (pick_part (names_stack stack address) (part_from (area_number Stack) (address - stack_base) (length stack))
    (record { area = area_number Heap; index = 0; length = 0 }))

-- the words of the area with this number
abbrev pub words_of : List ℕ → List ℕ → ℕ → List ℕ
words_of heap stack area = pick_words (eqb area (area_number Heap)) heap stack

-- What `bik_look_up` promises: the numbers of the part, and that they give the words of the library's part.
pub record NamesPart (heap stack : List ℕ) (address : ℕ) (r : BikPart) : Type 0 where
  pub numbers : r ≡ part_of heap stack address
  pub words : take r.length (drop r.index (words_of heap stack r.area)) ≡ part_at heap stack address
