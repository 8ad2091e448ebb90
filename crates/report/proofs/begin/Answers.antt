-- `report::begin` meets its contract: nothing is counted yet.
-- Assumes nothing.
use Rattle.report.proofs.Months.{possible-begun}
use Rattle.report.specs.Nexts.{Possible}
use Rattle.report.specs.Most.{numbers}
use Rattle.tally.specs.declared.Tally.{Tally}
use lib.ListN.{replicate}
use mathlib.Core.Path.{sym, subst}
use Rattle.report.proofs.begin.Goals as goal

pub returns : goal.returns
returns c = let e = c.empty.ensures in (rw e, subst (λ (t : Tally). Possible (record { files = 0; accepted = 0; start = 0; total = t; refused = replicate numbers 0 })) (sym e) possible-begun)
