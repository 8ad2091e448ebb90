-- `freeze::reading::fill` meets its contract: the loop's invariant says that what is left to put gives the whole (`Filling`).
-- Assumes nothing.
use Rattle.freeze.proofs.Filling.{Filling}
use Rattle.freeze.proofs.reading.fill.Given as goal

abbrev pub invariant-loop-word : goal.invariant-loop-word
invariant-loop-word l = Filling l.file l.kind l.from l.count l.fn.area l.at l.word-index l.word-items
