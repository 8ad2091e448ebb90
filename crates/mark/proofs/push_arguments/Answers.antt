use Prim.Native.Nat.{◌+◌}
use native.Mathlib.Omega.{arith}
use mathlib.Core.Path.{◌≡◌}
use Rattle.machine.specs.Layout.{N, fixed, field}
use Rattle.mark.specs.Whole.{at}
use Rattle.mark.proofs.Stacks.{pushable-part, pushable-after, pushed_none}
use Rattle.mark.proofs.Whole.{passable-pushed, whole-at, from_named, picked_more}
use Rattle.mark.proofs.Roots.{named_more}
use Rattle.mark.proofs.Parted.{part-at}
use Rattle.mark.proofs.push_arguments.Goals as goal

pub slice_bounds-word-items-end : goal.slice_bounds-word-items-end
unfolding field
slice_bounds-word-items-end c = omega arith

pub loop-word-init : goal.loop-word-init
loop-word-init c = pushed_none _ _ (λ x r. omega (arith, r.below, r.picked))

pub push_word-t-requires : goal.push_word-t-requires
unfolding field
push_word-t-requires c =
    let v = c.loop-word.invariant in
    let k = c.requires in
    let i = fixed + c.loop-word.word-index in
    rw (part-at fixed _ _ _ c.loop-word-test.true) (
      pushable-part (pushable-after k.control_in_bounds.1 v) (λ x r. record { at = i; below = omega arith; picked = omega arith; refers = r }),
      whole-at (passable-pushed k.passable (from_named (picked_more (omega arith))) v) _ (at i (omega arith) (omega arith)),
    )

pub loop-word-preserved : goal.loop-word-preserved
loop-word-preserved c =
    let next : fixed + (c.loop-word.word-index + 1) ≡ fixed + c.loop-word.word-index + 1 = omega arith in
    let pushed = rw (part-at fixed _ _ _ c.loop-word-test.true) at c.push_word-t.ensures in
    rw next (named_more c.loop-word.invariant (omega arith) pushed)

pub returns : goal.returns
unfolding field
returns c =
    let e : fixed + c.loop-word.word-index ≡ fixed + field c.args.control.now 0 N = omega arith in
    rw e at c.loop-word.invariant
