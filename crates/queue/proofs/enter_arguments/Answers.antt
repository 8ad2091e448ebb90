use mathlib.Core.Path.{◌≡◌, refl}
use native.Mathlib.Omega.{arith}
use Rattle.machine.specs.Layout.{N, fixed, field, argument}
use Rattle.mark.proofs.Parted.{part-at}
use Rattle.queue.specs.Entering.{none}
use Rattle.queue.proofs.Entering.{all_more, readable-after}
use Rattle.queue.proofs.enter_arguments.Goals as goal

pub slice_bounds-word-items-end : goal.slice_bounds-word-items-end
unfolding field
slice_bounds-word-items-end c = omega arith

pub loop-word-init : goal.loop-word-init
loop-word-init c = none

pub enter_word-t-requires : goal.enter_word-t-requires
unfolding field argument
enter_word-t-requires c =
    let b = readable-after c.requires.1 (omega arith) c.loop-word.invariant in
    (b.fit, b.deep, rw (part-at fixed _ _ _ c.loop-word-test.true) (b.within c.loop-word.word-index (omega arith)))

pub loop-word-preserved : goal.loop-word-preserved
unfolding argument
loop-word-preserved c =
    let read = rw (part-at fixed _ _ _ c.loop-word-test.true) at c.enter_word-t.ensures in
    all_more c.loop-word.word-index _ refl c.loop-word.invariant read

pub returns : goal.returns
unfolding field
returns c =
    let e : c.loop-word.word-index ≡ field c.args.control.now 0 N = omega arith in
    rw e at c.loop-word.invariant
