use native.Mathlib.Omega.{arith}
use lib.ListN.{length-set}
use lib.Seq.{length-take-le}
use Rattle.freeze.proofs.WriteLaws.{writing-none, writing-room, writing_more, writing-ends}
use Rattle.freeze.proofs.writing.write_area.Goals as goal

pub loop-word-init : goal.loop-word-init
loop-word-init c = writing-none _ _ _ _

pub bounds-output-at : goal.bounds-output-at
bounds-output-at c =
    let q = c.requires in
    omega (arith, writing-room _ _ _ _ _ _ _ c.loop-word.invariant q.kind_value (length-take-le _ _ q.count_in_bounds) q.count_in_bounds_2 (omega arith))

pub overflow_add-at : goal.overflow_add-at
overflow_add-at c =
    let q = c.requires in
    omega (arith, writing-room _ _ _ _ _ _ _ c.loop-word.invariant q.kind_value (length-take-le _ _ q.count_in_bounds) q.count_in_bounds_2 (omega arith))

pub put_word-at-requires : goal.put_word-at-requires
put_word-at-requires c =
    let q = c.requires in
    simp length-set (omega (arith, writing-room _ _ _ _ _ _ _ c.loop-word.invariant q.kind_value (length-take-le _ _ q.count_in_bounds) q.count_in_bounds_2 (omega arith)))

pub loop-word-preserved : goal.loop-word-preserved
loop-word-preserved c = writing_more _ _ _ _ _ _ _ c.loop-word.invariant (omega arith) c.put_word-at.ensures

pub returns : goal.returns
returns c = writing-ends _ _ _ _ _ _ _ c.loop-word.invariant (omega arith)
