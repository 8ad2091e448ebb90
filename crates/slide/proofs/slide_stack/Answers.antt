use native.Mathlib.Omega.{arith}
use Rattle.machine.proofs.InPlace.{in-place-end}
use Rattle.slide.proofs.slide_stack.Goals as goal

pub returns : goal.returns
returns c = λ cells k t. in-place-end _ c.loop-i.invariant (omega arith) _ (λ j w v h. h cells k t)
