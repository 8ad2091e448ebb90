-- `holder::why_held` meets its contract: what is refused is said as it is refused, and what is admitted is explained and the work words cleared.
-- Assumes nothing.
use native.Mathlib.Omega.{arith}
use Rattle.std.proofs.lemmas.Result.{err_from_is_err_and}
use Rattle.collect.proofs.Collecting.{reachable}
use Rattle.holder.proofs.Promising.{explains-refused, explains-passed}
use Rattle.holder.proofs.why_held.Goals as goal

pub returns-in_err-admit : goal.returns-in_err-admit
returns-in_err-admit c = let p = err_from_is_err_and c.from_residual.result c.from_residual.ensures.1 in rw (p.1, p.2) (explains-refused c.in_err-admit.ensures)

pub explain-answer-requires : goal.explain-answer-requires
explain-answer-requires c = reachable c.in_ok-admit.ensures

pub clear-requires : goal.clear-requires
clear-requires c = (omega arith, omega (arith, (reachable c.in_ok-admit.ensures).room, c.explain-answer.ensures.same))

pub returns : goal.returns
returns c = explains-passed c.in_ok-admit.ensures c.explain-answer.ensures c.clear.ensures
