-- `holder::chain::parent` meets its contract: the first cell that refers to x is looked for over the range. Assumes nothing.
use Rattle.std.proofs.Common.{◌≡◌, true, false, rules, tests}
use Rattle.std.proofs.lemmas.Iterator.{first_from_Range}
use Rattle.holder.specs.Tracing.{parent_from}
use Rattle.holder.proofs.Ranges.{lowest-range}
use Rattle.holder.proofs.chain.parent.Goals as goal

pub returns : goal.returns
unfolding parent_from
returns c =
    let a = c.args in
    let p = parent_from a.heap.now a.work.now a.a a.x in
    lowest-range p _ _ (first_from_Range _ _ _ _ (λ i. p i ≡ true) (λ i. p i ≡ false) c.find.ensures.ran (λ x q k. search (rules, tests)) (λ x q k. search (rules, tests)))
