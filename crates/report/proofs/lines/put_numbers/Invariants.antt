-- `report::lines::put_numbers` meets its contract: the loop keeps that the lines of the numbers so far are put (`Numbering`).
-- Assumes nothing.
use Rattle.report.proofs.Numberings.{Numbering}
use Rattle.report.proofs.lines.put_numbers.Given as goal

abbrev pub invariant-loop-number : goal.invariant-loop-number
invariant-loop-number l = Numbering l.fn.month.refused l.initial.output l.from l.output l.at l.number
