-- `cells::good::control_good` meets its contract: the test is asked of each saved argument. Assumes nothing.
use borrow.Author.Rules.{rules}
use Rattle.machine.specs.Lent.{seen}
use Rattle.cells.specs.Cells.{saved}
use Rattle.cells.proofs.Ranges.{every-all}
use Rattle.cells.proofs.good.control_good.Goals as goal

pub returns : goal.returns
returns c = every-all _ (saved (seen c.args.image.view)) (cc) _ _ _ c.all.ensures.ran (λ x b q k. search rules)
