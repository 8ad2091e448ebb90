-- `cells::good::stack_good` meets its contract: the test is asked of each stack word. Assumes nothing.
use borrow.Author.Rules.{rules}
use Rattle.cells.proofs.Ranges.{every-all}
use Rattle.cells.proofs.good.stack_good.Goals as goal

pub returns : goal.returns
returns c = every-all _ _ (cc) _ _ _ c.all.ensures.ran (λ x b q k. search rules)
