use Prim.Native.Nat.{◌+◌}
use native.Mathlib.Omega.{arith}
use Rattle.std.proofs.lemmas.Result.{err_from_is_err_and}
use Rattle.machine.specs.Layout.{B, place_of, field}
use Rattle.chains.proofs.Readings.{point-ok, point-broken}
use Rattle.chains.proofs.Walkings.{walking_start, walking-point, walked_none, walked-broken, walked-frame-broken}
use Rattle.chains.proofs.walk_points.Goals as goal

pub loop-next-init : goal.loop-next-init
unfolding field
loop-next-init c = (omega arith, omega arith, walking_start)

pub returns-then-not-point_sound : goal.returns-then-not-point_sound
returns-then-not-point_sound c = walked-broken c.loop-next.invariant.2 c.loop-next-test.true (point-broken c.point_sound.ensures.tested c.if-not-point_sound.true)

pub returns-in_err-walk_frames : goal.returns-in_err-walk_frames
returns-in_err-walk_frames c =
    let p = err_from_is_err_and c.from_residual.result c.from_residual.ensures.1 in
    rw
    (p.1, p.2)
    (walked-frame-broken
    c.loop-next.invariant.2
    c.loop-next-test.true
    (point-ok c.point_sound.ensures.tested c.if-not-point_sound.false)
    c.note_point.ensures
    c.loop-next.invariant.0
    c.in_err-walk_frames.ensures)

pub loop-next-preserved : goal.loop-next-preserved
loop-next-preserved c = (
  omega (arith, c.if-not-point_sound.ensures.inside),
  omega (arith, c.type_inv.stack (c.loop-next.next + place_of B)),
  walking-point
      c.loop-next.invariant.2
      c.loop-next-test.true
      (point-ok c.point_sound.ensures.tested c.if-not-point_sound.false)
      c.note_point.ensures
      c.loop-next.invariant.0
      c.in_ok-walk_frames.ensures,
)

pub returns : goal.returns
returns c = search walked_none
