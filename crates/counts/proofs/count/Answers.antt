use Prim.Native.Nat.{◌+◌}
use mathlib.Core.Path.{◌≡◌, ap}
use mathlib.Core.Logic.{inl, inr}
use native.Mathlib.Omega.{arith}
use lib.ListN.{get_or, take, length-take}
use lib.Dec.{ltb}
use Rattle.cell.specs.Word.{pick}
use Rattle.machine.proofs.Tests.{either}
use Rattle.machine.proofs.Below.{below-le}
use Rattle.counts.specs.Counts.{marked_in}
use Rattle.counts.proofs.Counting.{turn-none, turn_more, turn_end}
use Rattle.counts.proofs.count.Goals as goal

pub loop-word-init : goal.loop-word-init
loop-word-init c = (omega arith, turn-none _)

pub loop-word-preserved : goal.loop-word-preserved
loop-word-preserved c =
    let l = c.loop-word in
    let t = l.invariant.1 in
    let marks = take c.args.top c.args.work.now in
    let x = l.word-index in
    let as-was : ltb 0 (get_or l.word-items x 0) ≡ marked_in marks x = ap (ltb 0) (t.words.left x (omega arith)) in
    let kept : c.from-kept.result ≡ pick (marked_in marks x) 1 0 =
    elim (either (marked_in marks x)) [
      | inl e ↦ rw e (rw (as-was, e) at c.from-kept.ensures)
      | inr e ↦ rw e (rw (as-was, e) at c.from-kept.ensures)
    ] in
    let more = turn_more t (omega arith) _ kept in
    (omega (arith, more.total, below-le (marked_in marks) (x + 1)), more)

pub returns : goal.returns
returns c = let e : c.loop-word.word-index ≡ c.args.top = omega (arith, length-take c.args.top c.args.work.now) in turn_end (rw e at c.loop-word.invariant.1) (omega arith)
