-- `freeze::writing::write_area` meets its contract: the loop's invariant says that the records of the words so far are written (`Writing`).
-- Assumes nothing.
use lib.ListN.{take}
use Rattle.freeze.proofs.WriteLaws.{Writing}
use Rattle.freeze.proofs.writing.write_area.Given as goal

abbrev pub invariant-loop-word : goal.invariant-loop-word
invariant-loop-word l = Writing (take l.count l.area) l.kind l.initial.output l.from l.output l.at l.word-index
