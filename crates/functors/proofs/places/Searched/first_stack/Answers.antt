-- `functors::places::Searched::first_stack` meets its contract: the first index that is found is the lowest that covers a first cell. Assumes nothing.
use Rattle.std.proofs.Common.{◌≡◌, ◌+◌, get_or, eq-eqb, rules}
use Rattle.std.proofs.lemmas.Iterator.{serves_from_Range, first_from_Range}
use Rattle.machine.specs.Layout.{field}
use Rattle.functors.specs.Functors.{covers_stack, Within}
use Rattle.functors.proofs.Seeking.{lowest-found}
use Rattle.functors.proofs.places.Searched.first_stack.Goals as goal

pub find-requires-clause-callable : goal.find-requires-clause-callable
unfolding field
find-requires-clause-callable c =
    serves_from_Range (λ x q k. search rules) (λ x a b.
    let w : get_or c.args.self.work.now (c.args.self.notes + x) 0 ≡ 1 → Within (get_or c.args.self.view.control.now 5 0) c.args.self.view.heap.now (get_or c.args.self.view.stack.now x 0) = λ e. c.args.self.searchable.contained.of_stack x b (eq-eqb _ _ e) in
    search rules)

pub returns : goal.returns
unfolding field covers_stack
returns c =
    λ firsts t.
    lowest-found (covers_stack firsts c.args.self.view.heap.now c.args.self.view.stack.now c.args.self.work.now c.args.self.notes) _ _ (first_from_Range _ _ _ _ _ _ c.find.ensures.ran (λ x q k. search rules) (λ x q k. search rules))
