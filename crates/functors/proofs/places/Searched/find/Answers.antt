-- `functors::places::Searched::find` meets its contract: the areas are tried in their order. Assumes nothing.
use mathlib.Core.Path.{◌∙◌, sym}
use mathlib.Core.List.{[]}
use lib.ListN.{get_or}
use Rattle.std.specs.Prelude.{Some, None}
use Rattle.machine.specs.Layout.{field}
use Rattle.machine.proofs.Firsts.{all_first}
use Rattle.cells.specs.Cells.{checked_to}
use Rattle.functors.specs.Functors.{covered_checks, Within}
use Rattle.functors.proofs.Slices.{control-part, each-word}
use Rattle.functors.proofs.Seeking.{control-lowest}
use Rattle.cells.proofs.Areas.{finds, passes}
use Rattle.functors.proofs.places.Searched.find.Goals as goal

pub returns-in-Some : goal.returns-in-Some
unfolding covered_checks
returns-in-Some c = λ firsts t. c.refuse.ensures ∙ finds _ _ _ _ _ _ (c.in-Some.ensures firsts t)

pub returns-in-Some-first_stack : goal.returns-in-Some-first_stack
unfolding covered_checks
returns-in-Some-first_stack c =
    λ firsts t. c.refuse-in-Some-first_stack.ensures ∙ finds _ _ _ _ _ _ (c.in-Some-first_stack.ensures firsts t) ∙ passes _ _ _ _ _ (c.in_default.ensures firsts t)

pub first_word-requires : goal.first_word-requires
unfolding field
first_word-requires c =
    let k = c.args.self.searchable.contained in
    each-word _ _ _ (control-part _ _ k.arguments) (Within (get_or c.args.self.view.control.now 5 0) c.args.self.view.heap.now) k.of_control

pub returns-in-Some-first_word : goal.returns-in-Some-first_word
unfolding field covered_checks
returns-in-Some-first_word c =
    λ firsts t.
    c.refuse-in-Some-first_word.ensures
    ∙ finds _ _ _ _ _ _ (control-lowest c.args.self.searchable.contained t (Some c.in-Some-first_word.a) c.in-Some-first_word.ensures.lowest)
    ∙ passes _ _ _ _ _ (c.in_default-first_stack.ensures firsts t) ∙ passes _ _ _ _ _ (c.in_default.ensures firsts t)

pub returns-in-Some-first_entry : goal.returns-in-Some-first_entry
unfolding field covered_checks
returns-in-Some-first_entry c =
    λ firsts t.
    c.refuse-in-Some-first_entry.ensures ∙ finds _ _ _ _ _ _ (c.in-Some-first_entry.ensures firsts t.tallied.odd)
    ∙ passes _ _ _ _ _ (control-lowest c.args.self.searchable.contained t None c.in_default-first_word.ensures.lowest)
    ∙ passes _ _ _ _ _ (c.in_default-first_stack.ensures firsts t) ∙ passes _ _ _ _ _ (c.in_default.ensures firsts t)

pub returns : goal.returns
unfolding field covered_checks checked_to
returns c =
    λ firsts t.
    sym (all_first [] tt) ∙ passes _ _ _ _ _ (c.in_default-first_entry.ensures firsts t.tallied.odd)
    ∙ passes _ _ _ _ _ (control-lowest c.args.self.searchable.contained t None c.in_default-first_word.ensures.lowest)
    ∙ passes _ _ _ _ _ (c.in_default-first_stack.ensures firsts t) ∙ passes _ _ _ _ _ (c.in_default.ensures firsts t)
