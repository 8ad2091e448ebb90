-- `cells::good::structures_good` meets its contract: the test is asked of each heap cell below H. Assumes nothing.
use borrow.Author.Rules.{rules}
use Rattle.machine.specs.Lent.{seen}
use Rattle.cells.specs.Cells.{top}
use Rattle.cells.proofs.Ranges.{every-all}
use Rattle.cells.proofs.good.structures_good.Goals as goal

pub returns : goal.returns
returns c = every-all _ (top (seen c.args.image.view)) (cc) _ _ _ c.all.ensures.ran (λ x b q k. search rules)
