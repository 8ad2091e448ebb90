-- `enter_cells` meets its contract. The loop's invariant: the stack's words so far have been read. Assumes nothing.
use lib.ListN.{length}
use Rattle.queue.specs.Entering.{ReadAll, stack_word}
use Rattle.queue.proofs.enter_cells.Given as goal

abbrev pub invariant-loop-word : goal.invariant-loop-word
invariant-loop-word l = ReadAll l.heap (stack_word l.stack l.notes) l.initial.queue l.tail (length l.yielded) l.queue l.t
