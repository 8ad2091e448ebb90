-- `holder::root::first_cell` meets its contract: the first cell of the stack that refers to x is looked for over the range. Assumes nothing.
use Rattle.std.proofs.Common.{◌≡◌, true, false, rules, tests}
use Rattle.std.proofs.lemmas.Iterator.{first_from_Range}
use Rattle.holder.specs.Tracing.{cell_refers}
use Rattle.holder.proofs.Ranges.{lowest-range}
use Rattle.holder.proofs.root.first_cell.Goals as goal

pub returns : goal.returns
returns c =
    let a = c.args in
    let p = cell_refers a.stack.now a.heap.now a.work.now a.x in
    lowest-range p _ _ (first_from_Range _ _ _ _ (λ i. p i ≡ true) (λ i. p i ≡ false) c.find.ensures.ran (λ x q k. search (rules, tests)) (λ x q k. search (rules, tests)))
