-- Refusal 17 with the notes of the stack words for their roles: which heap cells are first cells of a STRUCT's target, and which words cover
-- a cell of such a set. Assumes nothing.
use Rattle.machine.specs.declared.Refusal.{Refusal}
use Rattle.std.specs.Prelude.{Result}
use Rattle.std.specs.Prelude.{ℕ, ◌+◌, ◌-◌, ◌%◌, ◌≤◌, ◌<◌, ◌≡◌, ◌⊎◌, Bool, true, false, ◌&&◌, ◌||◌, List, [], ◌∷◌, length, get_or, eqb}
use Rattle.cell.specs.Word.{VAR, STRUCT, LIST, value_of, tag_of, arity_of, stack_base, in_heap, extent, Refers}
use Rattle.machine.specs.declared.Area.TheVariants.{Heap, Stack, Control, Trail}
use Rattle.machine.specs.Layout.{Image, H, N, T, fixed, reg, argument, heap_most}
use Rattle.machine.specs.Moved.{below}
use Rattle.machine.specs.Refusals.{in_area, Verdict, accepted, refused, scan, first_of, cell_checks, entry_checks, struct_to, some_of, covers_from, first_checks}
use Rattle.machine.proofs.Accepted.{Sizes, Fits}
use Rattle.counts.specs.Counts.{Counting, Counted, Low}
use Rattle.cells.specs.Cells.{checked_to, notes_cell, Right}

-- ---- first cells

-- the word at i is a STRUCT whose first cell is x: a heap cell, a stack word noted as a cell, a saved argument
unfoldable pub heap_to : List ℕ → ℕ → ℕ → Bool
heap_to heap i x = struct_to (get_or heap i 0) x

unfoldable pub stack_to : List ℕ → List ℕ → ℕ → ℕ → ℕ → Bool
stack_to stack work notes i x = notes_cell work notes i && struct_to (get_or stack i 0) x

unfoldable pub control_to : List ℕ → ℕ → ℕ → Bool
control_to control i x = struct_to (argument control 0 i) x

-- one of the first n is
unfoldable pub any_to : (ℕ → ℕ → Bool) → ℕ → ℕ → Bool
any_to test n x = some_of (λ i. test i x) 0 n

unfoldable pub first_in : Image → List ℕ → ℕ → ℕ → Bool
first_in X work notes x =
    any_to (heap_to X.heap) (reg X H) x || (any_to (stack_to X.stack work notes) (length X.stack) x || any_to (control_to X.control) (reg X N) x)

-- all first cells of the first n lie below top
pub record Aims (test : ℕ → ℕ → Bool) (n top : ℕ) : Type 0 where
  pub below : (i x : ℕ) → i < n → test i x ≡ true → x < top

-- the cells of a set are flagged and no other word has changed; of `met` STRUCTs, `most` at most, and with none the set is empty
pub record Flags (set : ℕ → Bool) (work work' : List ℕ) (met most : ℕ) : Type 0 where
  pub on : (x : ℕ) → set x ≡ true → get_or work' x 0 ≡ 1
  pub off : (x : ℕ) → set x ≡ false → get_or work' x 0 ≡ get_or work x 0
  pub none : met ≡ 0 → (x : ℕ) → set x ≡ false
  pub few : met ≤ most
  pub same : length work' ≡ length work

-- ---- words that cover one

-- a cell of the set is among those that a word refers to, a STRUCT's own first cell not counted
unfoldable pub covers_in : (ℕ → Bool) → List ℕ → ℕ → Bool
covers_in firsts heap w = some_of firsts (covers_from w) (value_of w + extent heap w - covers_from w)

unfoldable pub covers_heap : (ℕ → Bool) → List ℕ → ℕ → Bool
covers_heap firsts heap i = covers_in firsts heap (get_or heap i 0)

unfoldable pub covers_stack : (ℕ → Bool) → List ℕ → List ℕ → List ℕ → ℕ → ℕ → Bool
covers_stack firsts heap stack work notes i = notes_cell work notes i && covers_in firsts heap (get_or stack i 0)

unfoldable pub covers_control : (ℕ → Bool) → List ℕ → List ℕ → ℕ → Bool
covers_control firsts heap control i = covers_in firsts heap (argument control 0 i)

unfoldable pub entry_in : (ℕ → Bool) → List ℕ → ℕ → Bool
entry_in firsts trail i = in_heap (get_or trail i 0) && firsts (get_or trail i 0)

-- 17 over the areas
unfoldable pub covered_checks : (ℕ → Bool) → Image → List ℕ → ℕ → List Verdict
covered_checks firsts X work notes =
    scan (covers_heap firsts X.heap) (reg X H) (λ i. refused 17 (in_area Heap i))
    ∷ scan (covers_stack firsts X.heap X.stack work notes) (length X.stack) (λ i. refused 17 (in_area Stack i))
    ∷ scan (covers_control firsts X.heap X.control) (reg X N) (λ i. refused 17 (in_area Control (fixed + i)))
    ∷ scan (entry_in firsts X.trail) (reg X T) (λ i. refused 17 (in_area Trail i))
    ∷ []

-- ---- what is checked

-- every cell that a word refers to lies below h
abbrev pub Within : ℕ → List ℕ → ℕ → Type 0
Within h heap w = (x : ℕ) → Refers heap w x → x < h

-- a VAR or a LIST of the heap names cells below h
pub record Named (h w : ℕ) : Type 0 where
  pub var : tag_of w ≡ VAR → value_of w < h
  pub list : tag_of w ≡ LIST → value_of w + 1 < h

-- so it is of every cell of an image; the notes stand behind the heap's part
pub record Contained (X : Image) (work : List ℕ) (notes : ℕ) : Type 0 where
  pub top : reg X H ≤ length X.heap
  pub small : reg X H ≤ heap_most
  pub behind : reg X H ≤ notes
  pub room : notes + length X.stack ≤ length work
  pub arguments : fixed + reg X N ≤ length X.control
  pub of_heap : (i : ℕ) → i < reg X H → Within (reg X H) X.heap (get_or X.heap i 0)
  pub named : (i : ℕ) → i < reg X H → Named (reg X H) (get_or X.heap i 0)
  pub of_stack : (i : ℕ) → i < length X.stack → notes_cell work notes i ≡ true → Within (reg X H) X.heap (get_or X.stack i 0)
  pub of_control : (i : ℕ) → i < reg X N → Within (reg X H) X.heap (argument X.control 0 i)

-- and so do the trail entries, t of them, that name a heap cell
pub record Entered (trail : List ℕ) (t h : ℕ) : Type 0 where
  pub room : t ≤ length trail
  pub entry : (i : ℕ) → i < t → get_or trail i 0 < stack_base → get_or trail i 0 < h

-- ---- what the work words tell

-- no flagged cell is among the arguments of another
pub record Apart (heap : List ℕ) (h : ℕ) (work : List ℕ) : Type 0 where
  pub none : (x y : ℕ) → x < y → y < h → 0 < get_or work x 0 → y ≤ x + arity_of (get_or heap x 0) → get_or work y 0 ≡ 0

-- what `tally` leaves of the flags below h, and its answer
abbrev pub Told : List ℕ → ℕ → List ℕ → List ℕ → ℕ → Type 0
Told heap h work work' r = ((work' ≡ work) × (r ≡ 0) × Apart heap h work) ⊎ Counted work h work' r

-- below h the first cells are those with an odd work word
pub record Odd (firsts : ℕ → Bool) (h : ℕ) (work : List ℕ) : Type 0 where
  pub at : (x : ℕ) → x < h → eqb (get_or work x 0 % 2) 1 ≡ firsts x

-- so of flags and of counts; with a total of 0 no first cell is among the arguments of another, else the words are counts
pub record Tallied (firsts : ℕ → Bool) (heap : List ℕ) (h : ℕ) (work : List ℕ) (total : ℕ) : Type 0 where
  pub odd : Odd firsts h work
  pub alone : total ≡ 0 → (x : ℕ) → x + arity_of (get_or heap x 0) < h → firsts x ≡ true → some_of firsts (x + 1) (arity_of (get_or heap x 0)) ≡ false
  pub counting : 0 < total → Counting firsts h work
  pub all : 0 < total → total ≡ below firsts h

-- a STRUCT's first cell is one of the set
abbrev pub Owned : (ℕ → Bool) → ℕ → Type 0
Owned firsts w = tag_of w ≡ STRUCT → firsts (value_of w) ≡ true

-- so of every cell of an image
pub record Owns (firsts : ℕ → Bool) (X : Image) (work : List ℕ) (notes : ℕ) : Type 0 where
  pub of_heap : (i : ℕ) → i < reg X H → Owned firsts (get_or X.heap i 0)
  pub of_stack : (i : ℕ) → i < length X.stack → notes_cell work notes i ≡ true → Owned firsts (get_or X.stack i 0)
  pub of_control : (i : ℕ) → i < reg X N → Owned firsts (argument X.control 0 i)

-- what the searches of the areas ask
pub record Searchable (X : Image) (work : List ℕ) (notes : ℕ) : Type 0 where
  pub contained : Contained X work notes
  pub low : Low (reg X H) work
  pub entered : Entered X.trail (reg X T) (reg X H)

-- of which set of first cells the work words and their total tell
pub record Telling (firsts : ℕ → Bool) (X : Image) (work : List ℕ) (notes total : ℕ) : Type 0 where
  pub tallied : Tallied firsts X.heap (reg X H) work total
  pub owns : Owns firsts X work notes

-- a VAR or a LIST covers no flagged cell
pub record Off (work : List ℕ) (w : ℕ) : Type 0 where
  pub var : tag_of w ≡ VAR → get_or work (value_of w) 0 ≡ 0
  pub head : tag_of w ≡ LIST → get_or work (value_of w) 0 ≡ 0
  pub tail : tag_of w ≡ LIST → get_or work (value_of w + 1) 0 ≡ 0

-- ---- what `check_first` asks and promises

-- an image that passes 1, 2 and 5 to 7, with right notes behind the part of the work words that is the heap's, which is blank below H
pub record Checkable (X : Image) (work : List ℕ) (notes : ℕ) : Type 0 where
  pub sizes : Sizes X
  pub fits : Fits X
  pub behind : length X.heap ≤ notes
  pub right : Right X work notes
  pub blank : (x : ℕ) → x < reg X H → get_or work x 0 ≡ 0
  pub passed : first_of (cell_checks X (entry_checks X [])) ≡ accepted

pub record ChecksFirst (X : Image) (work : List ℕ) (r : Result (Unit {0}) Refusal) (work' : List ℕ) : Type 0 where
  pub gives : checked_to r ≡ first_of (first_checks X)
  pub stays : work' ≡ work
