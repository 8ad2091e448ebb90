-- The checks of cells and trail entries, with the notes of the stack words for their roles: one note a word, in the work words from `notes`
-- on, 0 for no role, else the role's number. Assumes nothing.
use Rattle.cells.specs.declared.places.Bad.{Bad}
use Rattle.cells.specs.declared.places.Bad.TheVariants.{Bits, Reference}
use Rattle.machine.specs.declared.Refusal.{Refusal}
use Rattle.std.specs.Prelude.{Result, Ok, Err, Option, MatchOption, MatchBool}
use Rattle.std.specs.Prelude.{ℕ, ◌+◌, ◌-◌, ◌≤◌, ◌<◌, ◌≡◌, Bool, true, false, ◌&&◌, ◌||◌, not, List, [], ◌∷◌, length, get_or, eqb, leb, ltb}
use Rattle.cell.specs.Word.{pick, VAR, STRUCT, LIST, CONST, value_of, tag_of, stack_base, in_heap, arity_of}
use Rattle.machine.specs.declared.Area.TheVariants.{Heap, Stack, Control}
use Rattle.machine.specs.Layout.{Image, H, N, T, fixed, reg, argument, heap_most, stack_most}
use Rattle.machine.specs.Roles.{cell, code_of, is_cell, is_field, note_at}
use Rattle.machine.specs.Refusals.{in_area, Verdict, accepted, refused, scan, marked, functor_at, refers_well, bad_heap}
use Rattle.machine.specs.Answers.{verdict_of}

-- the registers H, T and n
abbrev pub top : Image → ℕ
top X = reg X H

abbrev pub used : Image → ℕ
used X = reg X T

abbrev pub saved : Image → ℕ
saved X = reg X N

-- what a check answers, as a verdict
unfoldable pub checked_to : Result (Unit {0}) Refusal → Verdict
checked_to (Ok tt) = accepted
checked_to (Err r) = verdict_of r

abbrev pub notes_cell : List ℕ → ℕ → ℕ → Bool
notes_cell work notes i = eqb (note_at work notes i) (code_of cell)

-- every role but cell is a field
abbrev pub notes_field : List ℕ → ℕ → ℕ → Bool
notes_field work notes i = ltb (code_of cell) (note_at work notes i)

-- a VAR that holds the address of a stack word that is a cell
unfoldable pub names_noted : Image → List ℕ → ℕ → ℕ → Bool
names_noted X work notes w =
    eqb (tag_of w) VAR
    && (leb stack_base (value_of w) && (ltb (value_of w - stack_base) (length X.stack) && notes_cell work notes (value_of w - stack_base)))

unfoldable pub marked_in : List ℕ → ℕ → Bool
marked_in heap i = marked (get_or heap i 0)

unfoldable pub marked_cell : Image → List ℕ → ℕ → ℕ → Bool
marked_cell X work notes i = notes_cell work notes i && marked (get_or X.stack i 0)

unfoldable pub marked_argument : List ℕ → ℕ → Bool
marked_argument control i = marked (argument control 0 i)

-- the last cell that a word refers to, a STRUCT's arguments not counted; 0 of a CONST, which refers to none
unfoldable pub last_of : ℕ → ℕ
last_of w = pick (eqb (tag_of w) CONST) 0 (value_of w + pick (eqb (tag_of w) LIST) 1 0)

-- the last cell of the heap cell at i is not below h
unfoldable pub far_in : List ℕ → ℕ → ℕ → Bool
far_in heap h i = leb h (last_of (get_or heap i 0))

-- the cell at v is a functor whose arguments end at or below h
unfoldable pub functor_well : List ℕ → ℕ → ℕ → Bool
functor_well heap h v = leb (v + (1 + arity_of (get_or heap v 0))) h && functor_at heap v

-- the heap cell at i is no STRUCT, or its target is one
unfoldable pub struct_good : Image → ℕ → Bool
struct_good X i = not (eqb (tag_of (get_or X.heap i 0)) STRUCT) || functor_well X.heap (reg X H) (value_of (get_or X.heap i 0))

-- the word w may be the cell at i of the stack
unfoldable pub well_on_stack : Image → List ℕ → ℕ → ℕ → ℕ → Bool
well_on_stack X work notes i w = refers_well (reg X H) X.heap w || (names_noted X work notes w && leb (value_of w) (stack_base + i))

unfoldable pub wrong_stack : Image → List ℕ → ℕ → ℕ → Bool
wrong_stack X work notes i = notes_cell work notes i && not (well_on_stack X work notes i (get_or X.stack i 0))

-- the word w may be a saved argument
unfoldable pub well_as_argument : Image → List ℕ → ℕ → ℕ → Bool
well_as_argument X work notes w = refers_well (reg X H) X.heap w || names_noted X work notes w

unfoldable pub wrong_argument : Image → List ℕ → ℕ → ℕ → Bool
wrong_argument X work notes i = not (well_as_argument X work notes (argument X.control 0 i))

-- a is a heap index below H or the address of a stack word that is no field
unfoldable pub well_entry : Image → List ℕ → ℕ → ℕ → Bool
well_entry X work notes a =
    (in_heap a && ltb a (reg X H))
    || (leb stack_base a && (ltb (a - stack_base) (length X.stack) && not (notes_field work notes (a - stack_base))))

unfoldable pub wrong_entry : Image → List ℕ → ℕ → ℕ → Bool
wrong_entry X work notes i = not (well_entry X work notes (get_or X.trail i 0))

-- the note of the stack word that the address a names, if it names one
abbrev pub NoteOf : Image → List ℕ → ℕ → ℕ → Option ℕ → Type 0
NoteOf X work notes a r =
    MatchOption r (stack_base ≤ a → length X.stack ≤ a - stack_base)
    (λ note. (stack_base ≤ a) × (a - stack_base < length X.stack) × (note ≡ note_at work notes (a - stack_base)))

-- the three areas with cells under one number, in their order, and what is checked after them
unfoldable pub in_areas : ℕ → (ℕ → Bool) → ℕ → (ℕ → Bool) → ℕ → (ℕ → Bool) → ℕ → List Verdict → List Verdict
in_areas number on_heap h on_stack count on_control n later =
    scan on_heap h (λ i. refused number (in_area Heap i))
    ∷ scan on_stack count (λ i. refused number (in_area Stack i))
    ∷ scan on_control n (λ i. refused number (in_area Control (fixed + i)))
    ∷ later

-- the number of what a cell is refused for, and the three tests of it
abbrev pub number_of : Bad → ℕ
number_of Bits = 5
number_of Reference = 6

unfoldable pub on_heap : Bad → Image → ℕ → Bool
on_heap Bits X = marked_in X.heap
on_heap Reference X = bad_heap X

unfoldable pub on_stack : Bad → Image → List ℕ → ℕ → ℕ → Bool
on_stack Bits X work notes = marked_cell X work notes
on_stack Reference X work notes = wrong_stack X work notes

unfoldable pub on_control : Bad → Image → List ℕ → ℕ → ℕ → Bool
on_control Bits X work notes = marked_argument X.control
on_control Reference X work notes = wrong_argument X work notes

-- 5 or 6 over the areas
unfoldable pub checks_of : Bad → Image → List ℕ → ℕ → List Verdict
checks_of bad X work notes = in_areas (number_of bad) (on_heap bad X) (top X) (on_stack bad X work notes) (length X.stack) (on_control bad X work notes) (saved X) []

-- the test holds of each index below n, or not of all
abbrev pub Every : (ℕ → Bool) → ℕ → Bool → Type 0
Every test n r = MatchBool r ((i : ℕ) → i < n → test i ≡ true) ((i : ℕ) × (i < n) × (test i ≡ false))

-- neither holds of i
abbrev pub clean : (ℕ → Bool) → (ℕ → Bool) → ℕ → Bool
clean marks wrongs i = not (marks i) && not (wrongs i)

-- neither is found below n
pub record Clean (marks wrongs : ℕ → Bool) (n : ℕ) : Type 0 where
  pub unmarked : (i : ℕ) → i < n → marks i ≡ false
  pub well : (i : ℕ) → i < n → wrongs i ≡ false

-- the notes are right: what is noted as a cell or a field is one, and nothing else
pub record Right (X : Image) (work : List ℕ) (notes : ℕ) : Type 0 where
  pub room : notes + length X.stack ≤ length work
  pub cells : (i : ℕ) → i < length X.stack → notes_cell work notes i ≡ is_cell X i
  pub fields : (i : ℕ) → i < length X.stack → notes_field work notes i ≡ is_field X i
  pub inside : (i : ℕ) → is_cell X i ≡ true → i < length X.stack

-- the sizes of what is checked
pub record Sized (X : Image) (work : List ℕ) (notes : ℕ) : Type 0 where
  pub top : reg X H ≤ length X.heap
  pub small : length X.heap ≤ heap_most
  pub low : length X.stack ≤ stack_most
  pub room : notes + length X.stack ≤ length work
  pub arguments : fixed + reg X N ≤ length X.control

pub record EntriesSized (X : Image) (work : List ℕ) (notes : ℕ) : Type 0 where
  pub registers : fixed ≤ length X.control
  pub top : reg X T ≤ length X.trail
  pub room : notes + length X.stack ≤ length work
