-- What each area becomes, by the counts of the kept cells, one for each heap cell below H, and the notes, one for each stack word, the number
-- of its role. Assumes nothing.
use Rattle.std.specs.Prelude.{ℕ, ◌+◌, ◌-◌, ◌≤◌, ◌<◌, ◌≡◌, Bool, true, false, List, length, get_or, eqb}
use Rattle.cell.specs.Word.{pick, stack_base, in_heap}
use Rattle.machine.specs.Layout.{T, H, N, place_of, fixed, field, argument, trail_most}
use Rattle.machine.specs.Roles.{cell, own, code_of, within}
use Rattle.machine.specs.Moved.{below, move_word, move_entry, each, close_up}
use Rattle.counts.specs.Counts.{Low, Movable}

abbrev pub pick_bool : Bool → Bool → Bool → Bool
pick_bool true a b = a
pick_bool false a b = b

-- whether a trail entry is kept: a heap cell that is, or a stack word whose note says cell
unfoldable pub keeps_entry : (ℕ → Bool) → List ℕ → ℕ → Bool
keeps_entry cells notes a = pick_bool (in_heap a) (cells a) (eqb (get_or notes (a - stack_base) 0) (code_of cell))

abbrev pub entries_of : (ℕ → Bool) → List ℕ → List ℕ → ℕ → Bool
entries_of cells notes trail i = keeps_entry cells notes (get_or trail i 0)

-- a T field becomes the number of kept entries below it
unfoldable pub move_t : (ℕ → Bool) → List ℕ → ℕ → ℕ → ℕ
move_t entries notes i w = pick (eqb (get_or notes i 0) (code_of (own T))) (below entries w) w

-- a cell is moved, an H field becomes d of it
unfoldable pub move_noted : (ℕ → Bool) → ℕ → ℕ → ℕ
move_noted cells note w = pick (eqb note (code_of cell)) (move_word (below cells) w) (pick (eqb note (code_of (own H))) (below cells w) w)

abbrev pub move_cell : (ℕ → Bool) → List ℕ → ℕ → ℕ → ℕ
move_cell cells notes i w = move_noted cells (get_or notes i 0) w

-- the heap's words that have counts are cells that refer below their end
pub record HeapSlides (heap counts : List ℕ) : Type 0 where
  pub low : Low (length counts) counts
  pub inside : length counts ≤ length heap
  pub cells : (x : ℕ) → x < length counts → Movable (length counts) (get_or heap x 0)

pub record StackSlides (stack counts notes : List ℕ) : Type 0 where
  pub low : Low (length counts) counts
  pub room : length stack ≤ length notes
  pub cells : (i : ℕ) → i < length stack → get_or notes i 0 ≡ code_of cell → Movable (length counts) (get_or stack i 0)
  pub boundaries : (i : ℕ) → i < length stack → get_or notes i 0 ≡ code_of (own H) → get_or stack i 0 ≤ length counts

-- the stack word w by its note
pub record WordSlides (counts : List ℕ) (note w : ℕ) : Type 0 where
  pub low : Low (length counts) counts
  pub cells : note ≡ code_of cell → Movable (length counts) w
  pub boundaries : note ≡ code_of (own H) → w ≤ length counts

pub record ControlSlides (control counts : List ℕ) : Type 0 where
  pub low : Low (length counts) counts
  pub inside : fixed + field control 0 N ≤ length control
  pub cells : (i : ℕ) → i < field control 0 N → Movable (length counts) (argument control 0 i)

-- each entry names a heap cell that has a count or a stack word; the T fields rise along the stack, up to t
pub record TrailSlides (trail stack counts notes : List ℕ) (t : ℕ) : Type 0 where
  pub room : length stack ≤ length notes
  pub inside : t ≤ length trail
  pub small : t ≤ trail_most
  pub heap_entries : (i : ℕ) → i < t → get_or trail i 0 < stack_base → get_or trail i 0 < length counts
  pub stack_entries : (i : ℕ) → i < t → stack_base ≤ get_or trail i 0 → get_or trail i 0 - stack_base < length stack
  pub last : (i : ℕ) → i < length stack → get_or notes i 0 ≡ code_of (own T) → get_or stack i 0 ≤ t
  pub rising : (i j : ℕ) → i < j → j < length stack → get_or notes i 0 ≡ code_of (own T) → get_or notes j 0 ≡ code_of (own T) → get_or stack i 0 ≤ get_or stack j 0

-- what the trail and the T fields of the stack become, and how many entries are kept
pub record TrailSlid (cells : ℕ → Bool) (trail stack notes : List ℕ) (t : ℕ) (trail' stack' : List ℕ) (r : ℕ) : Type 0 where
  pub entries : trail' ≡ close_up (entries_of cells notes trail) (move_entry (below cells)) t trail
  pub fields : stack' ≡ each (move_t (entries_of cells notes trail) notes) 0 stack
  pub kept : r ≡ below (entries_of cells notes trail) t

-- what the control area becomes, where `kept` entries are kept
unfoldable pub move_control_word : (ℕ → Bool) → ℕ → ℕ → List ℕ → ℕ → ℕ → ℕ
move_control_word cells total kept control i w =
    pick (eqb i (place_of T)) kept
    (pick (eqb i (place_of H)) total (pick (within fixed (fixed + field control 0 N) i) (move_word (below cells) w) w))
