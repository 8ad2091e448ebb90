-- Words that close up in place, one after the other: the first i are passed, those of them that are kept stand below `to`, and those from
-- i on are as they were. Assumes nothing.
use Rattle.std.specs.Prelude.{ℕ, ◌-◌, ◌≤◌, ◌<◌, ◌≡◌, Bool, List, map, length, get_or, take, drop}
use Rattle.cell.specs.Word.{stack_base}
use Rattle.machine.specs.Moved.{below, kept, move_entry}
use Rattle.counts.specs.Counts.{Counting}
use Rattle.slide.specs.Slides.{keeps_entry, entries_of}

-- what holds whatever is kept
pub record Passed (words words' : List ℕ) (i to : ℕ) : Type 0 where
  pub low : to ≤ i
  pub same : length words' ≡ length words
  pub ahead : drop i words' ≡ drop i words

-- the kept words of the first i, f of each, stand below `to`
pub record Closed (set : ℕ → Bool) (f : ℕ → ℕ) (words words' : List ℕ) (i to : ℕ) : Type 0 where
  pub count : to ≡ below set i
  pub front : take to words' ≡ map f (kept set 0 (take i words))

-- an entry that is a heap cell lies below `top`
abbrev pub EntryBelow : ℕ → ℕ → Type 0
EntryBelow top entry = entry < stack_base → entry < top

-- the entry has a count or a note
pub record Named (counts notes : List ℕ) (entry : ℕ) : Type 0 where
  pub heap_cell : EntryBelow (length counts) entry
  pub stack_word : stack_base ≤ entry → entry - stack_base < length notes

-- whether the entry is kept
abbrev pub EntryKept : List ℕ → List ℕ → ℕ → Bool → Type 0
EntryKept counts notes entry r = (cells : ℕ → Bool) → Counting cells (length counts) counts → r ≡ keeps_entry cells notes entry

-- what the entry becomes
abbrev pub EntryMoved : List ℕ → ℕ → ℕ → Type 0
EntryMoved counts entry r = (cells : ℕ → Bool) → Counting cells (length counts) counts → r ≡ move_entry (below cells) entry

pub record EntriesClose (trail counts notes : List ℕ) (a z to : ℕ) : Type 0 where
  pub low : to ≤ a
  pub order : a ≤ z
  pub inside : z ≤ length trail
  pub named : (i : ℕ) → a ≤ i → i < z → Named counts notes (get_or trail i 0)

-- the entries of any trail that were closed up to a are closed up to z
pub record EntriesClosed (trail counts notes : List ℕ) (a z to : ℕ) (trail' : List ℕ) (r : ℕ) : Type 0 where
  pub passed : Passed trail trail' z r
  pub closed : (cells : ℕ → Bool) (words : List ℕ) → Counting cells (length counts) counts → Passed words trail a to →
      Closed (entries_of cells notes words) (move_entry (below cells)) words trail a to →
      Closed (entries_of cells notes words) (move_entry (below cells)) words trail' z r
