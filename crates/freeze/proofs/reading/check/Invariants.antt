-- `freeze::reading::check` meets its contract: the loop's invariant says that what is left to check gives the verdict of all (`Checking`).
-- Assumes nothing.
use Rattle.freeze.proofs.Checking.{Checking}
use Rattle.freeze.proofs.reading.check.Given as goal

abbrev pub invariant-loop : goal.invariant-loop
invariant-loop l = Checking l.file l.kind l.from l.count l.at l.counter
