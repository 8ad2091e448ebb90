-- A trail entry is a heap cell or a stack word: whether it is kept and what it becomes, in each case, and the entries that close up one
-- after the other. Assumes nothing.
use Prim.Native.Nat.{ℕ, ◌+◌, ◌-◌, ◌≤◌, ◌<◌}
use mathlib.Core.Path.{◌≡◌, ap, ◌∙◌}
use mathlib.Core.Bool.{Bool}
use mathlib.Core.List.{List}
use native.Mathlib.Omega.{arith}
use borrow.Author.Tests.{lt-ltb, le-ltb}
use lib.ListN.{length, get_or}
use lib.Dec.{eqb}
use Rattle.cell.specs.Word.{stack_base}
use Rattle.machine.specs.Roles.{cell, code_of}
use Rattle.machine.specs.Moved.{below, move_entry}
use Rattle.slide.specs.Slides.{keeps_entry, entries_of}
use Rattle.slide.specs.Closed.{EntryKept, EntryMoved, EntriesClosed}
use Rattle.slide.proofs.Closing.{Turned, passed-at, passed-turn, passed-join, closed-turn}

module _ (cells : ℕ → Bool) (notes : List ℕ) (a : ℕ) where
  pub keeps-heap : a < stack_base → keeps_entry cells notes a ≡ cells a
  unfolding keeps_entry
  keeps-heap h = rw (lt-ltb a stack_base h)

  pub keeps-stack : stack_base ≤ a → keeps_entry cells notes a ≡ eqb (get_or notes (a - stack_base) 0) (code_of cell)
  unfolding keeps_entry
  keeps-stack h = rw (le-ltb a stack_base h)

pub entries-turn : {trail counts notes trail' trail'' : List ℕ} {a i to k k' : ℕ} {b : Bool} → EntriesClosed trail counts notes a i to trail' k → a ≤ i → i < length trail → EntryKept counts notes (get_or trail' i 0) b → Turned (EntryMoved counts (get_or trail' i 0)) b trail' k trail'' k' → EntriesClosed trail counts notes a (i + 1) to trail'' k'
entries-turn {trail} {notes = notes} {trail' = trail'} {i = i} e h l q t = record {
  passed = passed-turn e.passed t;
  closed = λ cells words k p c.
      let same : get_or trail' i 0 ≡ get_or words i 0 = passed-at e.passed i (omega arith) ∙ passed-at p i h in
      closed-turn (entries_of cells notes words) (move_entry (below cells)) words (omega (arith, p.same))
      (q cells k ∙ ap (keeps_entry cells notes) same)
      (λ v m. m cells k ∙ ap (move_entry (below cells)) same)
      (passed-join p h e.passed) t
      (e.closed cells words k p c);
}
