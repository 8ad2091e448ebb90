-- `cells::places::find` meets its contract: the areas are tried in their order, each by its test. Assumes nothing.
use mathlib.Core.Path.{◌∙◌, sym}
use mathlib.Core.List.{[]}
use native.Mathlib.Omega.{arith}
use borrow.Author.Rules.{rules}
use Rattle.machine.specs.Lent.{seen}
use Rattle.machine.specs.Lowest.{Lowest}
use Rattle.machine.proofs.Firsts.{all_first}
use Rattle.cells.specs.Cells.{top, saved, checked_to, on_heap, on_control, in_areas, checks_of}
use Rattle.cells.proofs.Areas.{finds, passes}
use Rattle.cells.proofs.Ranges.{lowest-find}
use Rattle.cells.proofs.places.find.Goals as goal
use Rattle.cells.proofs.places.find.Goals.{After-find, After-find-2}

heap : (c : After-find) → Lowest (on_heap c.args.bad (seen c.args.image.view)) (top (seen c.args.image.view)) c.find.result
heap c = lowest-find _ (top (seen c.args.image.view)) (cc) _ _ _ c.find.ensures.ran (λ x b q k. search rules)

control : (c : After-find-2) → Lowest (on_control c.args.bad (seen c.args.image.view) c.args.image.work.now c.args.image.notes) (saved (seen c.args.image.view)) c.find-2.result
control c = lowest-find _ (saved (seen c.args.image.view)) (cc) _ _ _ c.find-2.ensures.ran (λ x b q k. search rules)

pub returns-in-Some : goal.returns-in-Some
unfolding checks_of in_areas
returns-in-Some c =
    let w = (goal.at.returns-in-Some c).After-find in
    c.refuse.ensures ∙ finds _ _ _ _ _ _ (rw c.in-Some.is at (heap w))

pub returns-in-Some-first_stack : goal.returns-in-Some-first_stack
unfolding checks_of in_areas
returns-in-Some-first_stack c =
    let v = (goal.at.returns-in-Some-first_stack c).After-find in
    c.refuse-in-Some-first_stack.ensures ∙ finds _ _ _ _ _ _ c.in-Some-first_stack.ensures ∙ passes _ _ _ _ _ (rw c.in_default.is at (heap v))

pub overflow_add-a : goal.overflow_add-a
overflow_add-a c =
    let w = (goal.at.overflow_add-a c).After-find-2 in
    omega (arith, (rw c.in-Some-find.is at (control w)).0)

pub returns-in-Some-find : goal.returns-in-Some-find
unfolding checks_of in_areas
returns-in-Some-find c =
    let w = (goal.at.returns-in-Some-find c).After-find-2 in
    let u = (goal.at.returns-in-Some-find c).After-find in
    c.refuse-in-Some-find.ensures ∙ finds _ _ _ _ _ _ (rw c.in-Some-find.is at (control w))
    ∙ passes _ _ _ _ _ c.in_default-first_stack.ensures ∙ passes _ _ _ _ _ (rw c.in_default.is at (heap u))

pub returns-in-None : goal.returns-in-None
unfolding checked_to checks_of in_areas
returns-in-None c =
    let w = (goal.at.returns-in-None c).After-find-2 in
    let u = (goal.at.returns-in-None c).After-find in
    sym (all_first [] tt) ∙ passes _ _ _ _ _ (rw c.in-None.is at (control w))
    ∙ passes _ _ _ _ _ c.in_default-first_stack.ensures ∙ passes _ _ _ _ _ (rw c.in_default.is at (heap u))
