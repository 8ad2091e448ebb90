-- `cells::check_entries` meets its contract: the search of the entries, carried over to each image that has the view's control area and trail
-- and a stack as long. Assumes nothing.
use mathlib.Core.Path.{sym}
use Rattle.std.specs.Prelude.{Some, None}
use Rattle.machine.specs.Lent.{seen}
use Rattle.machine.specs.Answers.{verdict_of}
use Rattle.cells.specs.Cells.{checked_to}
use Rattle.cells.proofs.Same.{entries-same}
use Rattle.cells.proofs.check_entries.Goals as goal

pub returns-in-Some : goal.returns-in-Some
unfolding checked_to verdict_of
returns-in-Some c = λ X k s t r. sym (entries-same (seen c.args.view) X k s t r (Some c.in-Some.index) (rw c.in-Some.is at c.wrong_entry.ensures))

pub returns-in-None : goal.returns-in-None
unfolding checked_to
returns-in-None c = λ X k s t r. sym (entries-same (seen c.args.view) X k s t r None (rw c.in-None.is at c.wrong_entry.ensures))
