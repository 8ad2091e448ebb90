-- `retreat::step_back` meets its contract: what 1 to 7 or 17 refuse is answered so, and what passes them is accepted, as `retreat`
-- requires. Assumes nothing.
use mathlib.Core.Path.{◌≡◌, sym, ap, ◌∙◌}
use native.Mathlib.Omega.{arith}
use lib.ListN.{length}
use Rattle.machine.specs.Refusals.{accepted, verdict}
use Rattle.machine.proofs.Verdicts.{verdict-accepted}
use Rattle.machine.proofs.Images.{image_of}
use Rattle.cells.specs.Cells.{checked_to}
use Rattle.std.proofs.lemmas.Result.{err_from_is_err_and}
use Rattle.retreat.proofs.Promising.{refusal-given, answer-given}
use Rattle.retreat.proofs.step_back.Goals as goal
use Rattle.retreat.proofs.step_back.Goals.{In_ok-admit}

-- it passes 1 to 7 and 17
passes : (c : In_ok-admit) → verdict (length c.args.work.now) (image_of c.args.control.now c.args.stack.now c.args.heap.now c.args.trail.now) ≡ accepted
unfolding checked_to
passes c = sym c.admit.ensures.gives ∙ ap checked_to c.in_ok-admit.was

pub retreat-answer-requires : goal.retreat-answer-requires
retreat-answer-requires c = (verdict-accepted _ _ (passes (goal.at.retreat-answer-requires c).In_ok-admit)).0

pub clear-requires : goal.clear-requires
clear-requires c =
    (omega arith, omega (arith, (verdict-accepted _ _ (passes (goal.at.clear-requires c).In_ok-admit)).1, c.admit.auto.work))

pub returns-in_err-admit : goal.returns-in_err-admit
unfolding checked_to
returns-in_err-admit c =
    let p = err_from_is_err_and c.from_residual.result c.from_residual.ensures.1 in
    let a = c.in_err-admit.ensures in
    rw (p.1, p.2) (refusal-given (image_of c.args.control.now c.args.stack.now c.args.heap.now c.args.trail.now) _ _ a.gives a.refused)

pub returns : goal.returns
returns c =
    let p = passes (goal.at.returns c).In_ok-admit in
    answer-given (image_of c.args.control.now c.args.stack.now c.args.heap.now c.args.trail.now) _ p c.retreat-answer.ensures _ (c.admit.ensures.passed p).rest c.clear.ensures
