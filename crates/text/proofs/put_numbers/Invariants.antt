-- `text::put_numbers` meets its contract: the loop's invariant says that the words so far are put (`Putting`). Assumes nothing.
use lib.ListN.{take}
use Rattle.text.specs.Line.{numbers}
use Rattle.text.proofs.Puttings.{Putting}
use Rattle.text.proofs.put_numbers.Given as goal

abbrev pub invariant-loop-word : goal.invariant-loop-word
invariant-loop-word l = Putting numbers (take l.end l.words) l.initial.output l.from l.output l.at l.word-index
