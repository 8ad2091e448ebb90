-- `collect::collect` meets its contract: what is refused changes nothing but the work words, and what is admitted goes through the phases.
-- Assumes nothing.
use Rattle.machine.proofs.Images.{image_of}
use native.Mathlib.Omega.{arith}
use Rattle.collect.specs.Phases.{Reaches}
use Rattle.std.proofs.lemmas.Result.{err_from_is_err_and}
use Rattle.collect.proofs.Collecting.{collects-refused, collects-passed, reachable}
use Rattle.collect.proofs.collect.Goals as goal
use Rattle.collect.proofs.collect.Goals.{After-reach-total}

-- and its reached cells are counted
counted : (c : After-reach-total) → Reaches (image_of c.args.control.now c.args.stack.now c.args.heap.now c.args.trail.now) c.admit.new.work c.reach-total.new.work c.reach-total.result
counted c = c.reach-total.ensures

pub returns-in_err-admit : goal.returns-in_err-admit
returns-in_err-admit c =
    let p = err_from_is_err_and c.from_residual.result c.from_residual.ensures.1 in rw (p.1, p.2) (collects-refused c.in_err-admit.ensures)

pub reach-total-requires : goal.reach-total-requires
reach-total-requires c = reachable c.in_ok-admit.ensures

pub close_up-done-requires : goal.close_up-done-requires
close_up-done-requires c = (counted (goal.at.close_up-done-requires c).After-reach-total).slidable

pub clear-requires : goal.clear-requires
clear-requires c = (omega arith, (counted (goal.at.clear-requires c).After-reach-total).slidable.room)

pub returns : goal.returns
returns c =
    collects-passed c.in_ok-admit.ensures (counted (goal.at.returns c).After-reach-total) c.close_up-done.ensures c.clear.ensures
