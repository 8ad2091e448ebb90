use native.Mathlib.Omega.{arith}
use Rattle.slide.proofs.Trails.{trailing-none, trailing-close, trailing-up, trailing-field, trailing-other, trailing-end}
use Rattle.slide.proofs.slide_trail.Goals as goal
use Rattle.slide.proofs.slide_trail.Goals.{Then-notes-i-eq-T_FIELD, then-notes-i-eq-T_FIELD, else-notes-i-eq-T_FIELD}

pub loop-i-init : goal.loop-i-init
loop-i-init c = trailing-none

pub close_entries-kept-requires : goal.close_entries-kept-requires
close_entries-kept-requires c =
    let r = c.loop-i.invariant in
    let u = trailing-up c.requires r (omega arith) c.if-notes-i-eq-T_FIELD.true in
    trailing-close c.requires r _ u.0 u.1

pub loop-i-preserved : goal.loop-i-preserved
loop-i-preserved c =
    let r = c.loop-i.invariant in
    elim c.if-notes-i-eq-T_FIELD.branch [
      | then-notes-i-eq-T_FIELD w ↦ rw (w.trail-is, w.kept-is, w.from-is) (trailing-field c.requires r (omega arith) w.if-notes-i-eq-T_FIELD.true w.close_entries-kept.ensures w.stack-is)
      | else-notes-i-eq-T_FIELD w ↦ rw (w.trail-is, w.stack-is, w.kept-is, w.from-is) (trailing-other r (omega arith) w.if-notes-i-eq-T_FIELD.false)
    ]

pub close_entries-kept-requires-2 : goal.close_entries-kept-requires-2
close_entries-kept-requires-2 c =
    let r = c.loop-i.invariant in
    trailing-close c.requires r _ r.low (omega arith)

pub returns : goal.returns
returns c =
    trailing-end c.requires c.loop-i.invariant (omega arith) c.close_entries-kept-2.ensures c.clear.ensures
