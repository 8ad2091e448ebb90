-- `enter_arguments` meets its contract. The loop's invariant: the saved arguments so far have been read. Assumes nothing.
use Rattle.machine.specs.Layout.{argument}
use Rattle.queue.specs.Entering.{ReadAll}
use Rattle.queue.proofs.enter_arguments.Given as goal

abbrev pub invariant-loop-word : goal.invariant-loop-word
invariant-loop-word l = ReadAll l.heap (argument l.control 0) l.initial.queue 0 l.word-index l.queue l.t
