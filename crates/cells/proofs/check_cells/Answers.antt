-- `cells::check_cells` meets its contract: all good is no refusal, else 5 is looked for and then 6; carried over to each image that has the
-- view's areas but for the trail. Assumes nothing.
use mathlib.Core.Path.{sym, ◌∙◌}
use Rattle.cells.specs.declared.places.Bad.TheVariants.{Bits, Reference}
use Rattle.std.proofs.lemmas.Result.{err_from_is_err_and}
use Rattle.machine.specs.Lent.{seen}
use Rattle.machine.proofs.Firsts.{else-passes, else-refuses}
use Rattle.machine.proofs.Injective.{refusal-refuses}
use Rattle.cells.specs.Cells.{checked_to}
use Rattle.cells.proofs.Same.{cells-same}
use Rattle.cells.proofs.check_cells.Goals as goal

pub returns-then-all_good : goal.returns-then-all_good
unfolding checked_to
returns-then-all_good c =
    λ X k s h r. sym (cells-same (seen c.args.view) X k s h r ∙ else-passes _ _ (c.all_good.ensures Bits c.if-all_good.true) ∙ c.all_good.ensures Reference c.if-all_good.true)

pub returns-in_err-find : goal.returns-in_err-find
unfolding checked_to
returns-in_err-find c =
    let p = err_from_is_err_and c.from_residual.result c.from_residual.ensures.1 in
    rw (p.1, p.2) (λ X k s h r. c.in_err-find.ensures ∙ sym (cells-same (seen c.args.view) X k s h r ∙ else-refuses _ _ (λ z. refusal-refuses _ (c.in_err-find.ensures ∙ z))))

pub returns : goal.returns
unfolding checked_to
returns c = λ X k s h r. c.find-2.ensures ∙ sym (cells-same (seen c.args.view) X k s h r ∙ else-passes _ _ (sym c.in_ok-find.ensures))
