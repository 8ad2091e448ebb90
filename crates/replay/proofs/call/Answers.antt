-- `replay::call` meets its contract: what its byte asks for is called, and it says whether the answer is no refusal. Assumes nothing.
use native.Mathlib.Omega.{arith}
use Rattle.replay.proofs.Calling.{collect-calls, step-calls}
use Rattle.replay.proofs.call.Goals as goal

pub returns-in-0 : goal.returns-in-0
returns-in-0 c = rw c.is_ok.ensures.value (collect-calls _ c.in-0.is c.collect.result c.collect.ensures)

pub returns-in_default : goal.returns-in_default
returns-in_default c = rw c.is_ok-in_default.ensures.value (step-calls _ (λ z. omega arith) c.step_back.result c.step_back.ensures)
