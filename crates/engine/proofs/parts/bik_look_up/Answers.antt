-- `engine::parts::bik_look_up` meets its contract: whether the library's part is empty and which area the address is of leave one case
-- each. Assumes nothing.
use native.Mathlib.Omega.{arith}
use Rattle.engine.proofs.Naming.{empty-named, heap-named, stack-named}
use Rattle.engine.proofs.parts.bik_look_up.Goals as goal

pub returns-then-length-eq0 : goal.returns-then-length-eq0
returns-then-length-eq0 c = empty-named _ _ _ _ c.look_up-length.ensures.words c.if-length-eq0.true

pub returns-then-address-lt-STACK_BASE : goal.returns-then-address-lt-STACK_BASE
returns-then-address-lt-STACK_BASE c = heap-named _ _ _ _ c.look_up-length.ensures.words c.if-length-eq0.false (omega arith)

pub returns : goal.returns
returns c = stack-named _ _ _ _ c.look_up-length.ensures.words c.if-length-eq0.false (omega arith)
