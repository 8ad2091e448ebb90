-- `slide::keeps` meets its contract: a heap cell is kept where its count is odd, a stack word where its note says cell. Assumes nothing.
use mathlib.Core.Path.{sym, ◌∙◌}
use native.Mathlib.Omega.{arith}
use Rattle.counts.proofs.Counting.{odd-cell}
use Rattle.slide.proofs.Entries.{keeps-heap, keeps-stack}
use Rattle.slide.proofs.keeps.Goals as goal

pub returns-then-entry-lt-STACK_BASE : goal.returns-then-entry-lt-STACK_BASE
returns-then-entry-lt-STACK_BASE c =
    λ cells k. odd-cell k _ (c.requires.heap_cell (omega arith)) ∙ sym (keeps-heap cells c.args.notes.now c.args.entry (omega arith))

pub returns-else-entry-lt-STACK_BASE : goal.returns-else-entry-lt-STACK_BASE
returns-else-entry-lt-STACK_BASE c =
    λ cells k. rw c.stack_index.ensures (sym (keeps-stack cells c.args.notes.now c.args.entry (omega arith)))
