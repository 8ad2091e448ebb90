-- The text that tells why a heap cell is held: the root by kind, then a line a cell. Document 02, order 4, and docs/WHY.md. Assumes nothing.
use Rattle.std.specs.Prelude.{ℕ, ◌+◌, ◌-◌, List, [], ◌∷◌, ◌++◌, get_or, take, eqb}
use Rattle.cell.specs.Word.{VAR, STRUCT, LIST, value_of, tag_of}
use Rattle.machine.specs.declared.Area.{Area}
use Rattle.machine.specs.declared.Area.TheVariants.{Heap, Stack, Control, Trail}
use Rattle.machine.specs.Layout.{Image, fixed, frame_fixed}
use Rattle.machine.specs.Chains.{Thing, frame, point, walk}
use Rattle.machine.specs.Roles.{cell, gives}
use Rattle.machine.specs.Refusals.{accepted, refused}
use Rattle.machine.specs.Answers.{pick_words}
use Rattle.text.specs.Decimal.{decimal}
use Rattle.text.specs.Line.{ascii, spaced}
use Rattle.listing.specs.Text.{name_of, refused_text}
use Rattle.holder.specs.Answers.{Said, held, dead, refusal}

-- the stack word i as a cell of this frame or choice point; its cells are counted from 1
unfoldable pub member_text : ℕ → Thing → List ℕ
member_text i (frame e k limit) = ascii "cell" ++ (spaced (1 + i - (e + frame_fixed)) ++ (ascii " of the frame at" ++ spaced e))
member_text i (point b limit t h) = ascii "saved argument" ++ (spaced (1 + i - (b + fixed)) ++ (ascii " of the choice point at" ++ spaced b))

-- of the first of these things that has the word i for a cell
unfoldable pub owner_text : Image → ℕ → List Thing → List ℕ
owner_text X i [] = []
owner_text X i (x ∷ xs) = let later = owner_text X i xs in pick_words (gives X i cell x) (member_text i x) later

-- the word of the control area as an argument; document 004 counts A1 first
unfoldable pub argument_text : ℕ → List ℕ
argument_text index = ascii "argument" ++ (spaced (1 + index - fixed) ++ ascii " of the control area")

-- "a root (control argument, frame cell or saved argument ..)"; no root stands in the other areas
unfoldable pub kind_text : Image → Area → ℕ → List ℕ
kind_text X Control index = argument_text index
kind_text X Stack index = owner_text X index (walk X)
kind_text X Heap index = []
kind_text X Trail index = []

-- ".. by area and index"
unfoldable pub site_text : Area → ℕ → List ℕ
site_text area index = ascii ": " ++ (name_of area ++ (spaced index ++ ascii "\n"))

unfoldable pub root_line : Image → Area → ℕ → List ℕ
root_line X area index = ascii "held by " ++ (kind_text X area index ++ site_text area index)

unfoldable pub tag_name : ℕ → List ℕ
tag_name tag =
    pick_words (eqb tag VAR) (ascii " VAR")
    (pick_words (eqb tag STRUCT) (ascii " STRUCT") (pick_words (eqb tag LIST) (ascii " LIST") (ascii " CONST")))

-- a heap cell: its index, tag and value
unfoldable pub cell_line : List ℕ → ℕ → List ℕ
cell_line heap x = decimal x ++ (tag_name (tag_of (get_or heap x 0)) ++ (spaced (value_of (get_or heap x 0)) ++ ascii "\n"))

unfoldable pub cell_lines : List ℕ → List ℕ → List ℕ
cell_lines heap [] = []
cell_lines heap (x ∷ xs) = cell_line heap x ++ cell_lines heap xs

-- what is said, the chain's cells standing in the front of the room
unfoldable pub said_text : Image → Said → List ℕ → List ℕ
said_text X (held area index length) room = root_line X area index ++ cell_lines X.heap (take length room)
said_text X dead room = ascii "dead\n"
said_text X (refusal (refused number place)) room = refused_text number place
said_text X (refusal accepted) room = []
