use native.Mathlib.Omega.{arith}
use Rattle.queue.specs.Entering.{none, more}
use Rattle.queue.proofs.Entering.{entered-length, entered-fit}
use Rattle.queue.proofs.enter_range.Goals as goal

pub loop-x-init : goal.loop-x-init
loop-x-init c = none

pub enter-t-requires : goal.enter-t-requires
enter-t-requires c =
    let g = c.loop-x.invariant in (
      entered-fit c.requires.0 (λ y r. c.requires.2 y (omega arith)) g,
      omega (arith, entered-length g, c.requires.2 c.loop-x.x (omega arith)),
    )

pub loop-x-preserved : goal.loop-x-preserved
loop-x-preserved c = more c.loop-x.invariant c.enter-t.ensures
