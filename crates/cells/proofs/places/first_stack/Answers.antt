-- `cells::places::first_stack` meets its contract: the test of its way is asked of each stack word. Assumes nothing.
use borrow.Author.Rules.{rules}
use Rattle.cells.proofs.Ranges.{lowest-find}
use Rattle.cells.proofs.places.first_stack.Goals as goal

pub returns-in-Bits : goal.returns-in-Bits
returns-in-Bits c = lowest-find _ _ (cc) _ _ _ c.find.ensures.ran (λ x b q k. search rules)

pub returns-in-Reference : goal.returns-in-Reference
returns-in-Reference c = lowest-find _ _ (cc) _ _ _ c.find-in-Reference.ensures.ran (λ x b q k. search rules)
