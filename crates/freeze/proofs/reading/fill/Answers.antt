use native.Mathlib.Omega.{arith}
use lib.Seq.{length-take-le}
use Rattle.freeze.proofs.RecordLaws.{passed-kind}
use Rattle.freeze.proofs.Filling.{filling-passed, filling-more, filling-ends}
use Rattle.freeze.proofs.reading.fill.Goals as goal

pub word_in-requires : goal.word_in-requires
word_in-requires c =
    let l = length-take-le c.args.count c.args.area.now c.requires.count_in_bounds in
    omega (arith, (passed-kind _ _ _ (filling-passed _ _ _ _ _ _ _ _ c.loop-word.invariant c.requires.whole.whole (omega arith))).1, c.requires.whole.word)

pub overflow_add-at : goal.overflow_add-at
overflow_add-at c =
    let l = length-take-le c.args.count c.args.area.now c.requires.count_in_bounds in
    omega (arith, (passed-kind _ _ _ (filling-passed _ _ _ _ _ _ _ _ c.loop-word.invariant c.requires.whole.whole (omega arith))).1, c.record_size-size.ensures)

pub loop-word-preserved : goal.loop-word-preserved
loop-word-preserved c =
    let l = length-take-le c.args.count c.args.area.now c.requires.count_in_bounds in
    rw (c.record_size-size.ensures, c.word_in.ensures) (filling-more _ _ _ _ _ _ _ _ c.loop-word.invariant c.requires.whole.whole (omega arith))

pub returns : goal.returns
returns c =
    let l = length-take-le c.args.count c.args.area.now c.requires.count_in_bounds in
    filling-ends _ _ _ _ _ _ _ _ c.loop-word.invariant c.requires.count_in_bounds (omega arith)
