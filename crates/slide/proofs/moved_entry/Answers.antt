-- `slide::moved_entry` meets its contract: the half of a heap cell's count is where it goes, and a stack word's entry stays. Assumes
-- nothing.
use mathlib.Core.Path.{sym, ◌∙◌}
use native.Mathlib.Omega.{arith}
use Rattle.counts.proofs.Counting.{half}
use Rattle.machine.proofs.Words.{entry-low, entry-high}
use Rattle.slide.proofs.moved_entry.Goals as goal

pub returns-then-entry-lt-STACK_BASE : goal.returns-then-entry-lt-STACK_BASE
returns-then-entry-lt-STACK_BASE c = λ cells k. half k _ (c.requires (omega arith)) ∙ sym (entry-low _ _ (omega arith))

pub returns-else-entry-lt-STACK_BASE : goal.returns-else-entry-lt-STACK_BASE
returns-else-entry-lt-STACK_BASE c = λ cells k. sym (entry-high _ _ (omega arith))
