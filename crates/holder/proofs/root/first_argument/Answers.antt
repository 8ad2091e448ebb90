-- `holder::root::first_argument` meets its contract: the first saved argument that refers to x is looked for over the range. Assumes nothing.
use Rattle.std.proofs.Common.{◌≡◌, true, false, rules, tests}
use Rattle.std.proofs.lemmas.Iterator.{first_from_Range}
use Rattle.machine.specs.Layout.{field}
use Rattle.holder.specs.Tracing.{argument_refers}
use Rattle.holder.proofs.Ranges.{lowest-range}
use Rattle.holder.proofs.root.first_argument.Goals as goal

pub returns : goal.returns
unfolding field
returns c =
    let a = c.args in
    let p = argument_refers a.control.now a.heap.now a.x in
    lowest-range p _ _ (first_from_Range _ _ _ _ (λ i. p i ≡ true) (λ i. p i ≡ false) c.find.ensures.ran (λ x q k. search (rules, tests)) (λ x q k. search (rules, tests)))
