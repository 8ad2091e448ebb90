-- `month::run` is safe and ends: what a step answers lies inside the output and inside what is held (`Learnt`). Assumes nothing.
use native.Mathlib.Omega.{arith}
use lib.ListN.{length-take, length-drop}
use Rattle.report.proofs.Learnt.{step-used, step_falls}
use Rattle.month.proofs.run.Goals as goal

pub loop-held-smaller : goal.loop-held-smaller
loop-held-smaller g c = step_falls c.next-step.ensures.nexts c.in-Some.is

pub loop-held-preserved : goal.loop-held-preserved
loop-held-preserved g c =
    let h = c.in_ok-held.ensures.ok.0 in
    let q = c.past-held.ensures in
    let u = simp (length-take, length-drop) at (step-used c.next-step.ensures.nexts c.in-Some.is) in
    (record { holds = record { order = omega (arith, u, q, h.order); inside = omega (arith, q, h.inside); room = h.room }; room = c.in_ok-at.ensures; possible = rw c.in-Some.is at c.next-step.ensures.possible }, omega arith, omega arith)
