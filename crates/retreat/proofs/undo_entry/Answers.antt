-- `retreat::undo_entry` meets its contract: the one store is that of the entry's address, in the heap below the stack's addresses and in the
-- stack from there on. Assumes nothing.
use native.Mathlib.Omega.{arith}
use Rattle.retreat.proofs.Undoing.{undid-on-heap, undid-on-stack}
use Rattle.retreat.proofs.undo_entry.Goals as goal

pub returns-then-entry-lt-STACK_BASE : goal.returns-then-entry-lt-STACK_BASE
returns-then-entry-lt-STACK_BASE c = undid-on-heap c.requires (omega arith) _ c.unbound_at.ensures

pub returns-else-entry-lt-STACK_BASE : goal.returns-else-entry-lt-STACK_BASE
returns-else-entry-lt-STACK_BASE c = rw c.stack_index-i.ensures (undid-on-stack c.requires (omega arith) _ c.unbound_at-else-entry-lt-STACK_BASE.ensures)
