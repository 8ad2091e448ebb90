use Prim.Native.Nat.{ℕ, ◌<◌}
use native.Mathlib.Omega.{arith}
use lib.ListN.{length-take, length-drop}
use Rattle.machine.specs.Layout.{N, field, argument}
use Rattle.slide.proofs.Controls.{argument-left, control-slid}
use Rattle.slide.proofs.slide_control.Goals as goal

pub moved_word-requires : goal.moved_word-requires
unfolding argument field
moved_word-requires c =
    let i = c.loop-word.word-index in
    let m : i < field c.args.control.now 0 N = omega (arith, length-take {A = ℕ}, length-drop {A = ℕ}) in
    (c.requires.low, rw (argument-left c.args.control.now _ c.loop-word.invariant (omega (arith, c.requires.inside)) (omega arith)) (c.requires.cells i m))

pub returns : goal.returns
unfolding field
returns c =
    control-slid _ _ c.loop-word.invariant (omega (arith, c.requires.inside)) (omega (arith, c.requires.inside, length-take {A = ℕ}, length-drop {A = ℕ})) (omega arith) _ _
