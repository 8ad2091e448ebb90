use Prim.Native.Nat.{◌+◌}
use native.Mathlib.Omega.{arith}
use Rattle.machine.specs.Layout.{link_place}
use Rattle.chains.proofs.Walkings.{walking_start, walking-frame, walked_none, walked-broken, walked-again}
use Rattle.chains.proofs.walk_frames.Goals as goal

pub loop-next-init : goal.loop-next-init
loop-next-init c = (omega arith, omega arith, walking_start)

pub returns-then-end-at : goal.returns-then-end-at
returns-then-end-at c = walked-broken c.loop-next.invariant.2 c.loop-next-test.true (λ o. omega (arith, o))

pub returns-then-met : goal.returns-then-met
returns-then-met c = search walked-again

pub loop-next-preserved : goal.loop-next-preserved
loop-next-preserved c =
    (omega arith, omega (arith, c.type_inv.stack (c.loop-next.next + link_place)), search walking-frame)

pub returns : goal.returns
returns c = search walked_none
