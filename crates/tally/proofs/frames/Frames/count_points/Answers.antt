use native.Mathlib.Omega.{arith}
use Rattle.std.proofs.Common.{rules}
use Rattle.machine.specs.Layout.{field}
use Rattle.tally.proofs.Points.{here, passed-less, passed-room, passed-more, passed-end}
use Rattle.tally.proofs.frames.Frames.count_points.Goals as goal

pub bounds-self-at : goal.bounds-self-at
bounds-self-at c = omega (arith, (here c.loop-next.invariant.5 c.loop-next-test.true).inside)

pub depth-frames-requires : goal.depth-frames-requires
unfolding field
depth-frames-requires c = (here c.loop-next.invariant.5 c.loop-next-test.true).own

pub point-counted-requires : goal.point-counted-requires
point-counted-requires c =
    let i = c.loop-next.invariant in
    omega (arith, passed-room i.5 c.loop-next-test.true i.1 i.2)

pub bounds-self-at-in-loop-next : goal.bounds-self-at-in-loop-next
bounds-self-at-in-loop-next c = rw c.depth-frames.ensures.same_stack (omega (arith, (here c.loop-next.invariant.5 c.loop-next-test.true).inside))

pub loop-next-smaller : goal.loop-next-smaller
unfolding field
loop-next-smaller c = rw c.depth-frames.ensures.same_stack (passed-less c.loop-next.invariant.5 c.loop-next-test.true)

pub loop-next-preserved : goal.loop-next-preserved
unfolding field
loop-next-preserved c =
    let i = c.loop-next.invariant in
    rw (c.depth-frames.ensures.same_stack, c.depth-frames.ensures.same_reference) (
      search rules,
      i.1,
      i.2,
      i.3,
      i.4,
      passed-more i.5 c.loop-next-test.true c.depth-frames.ensures.chains c.point-counted.ensures,
    )

pub returns-clause-counted : goal.returns-clause-counted
returns-clause-counted c = let i = c.loop-next.invariant in rw (← i.3) (passed-end i.5 c.loop-next-test.false)
