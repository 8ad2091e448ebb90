use mathlib.Core.Path.{◌≡◌}
use native.Mathlib.Omega.{arith}
use Rattle.std.proofs.lemmas.List.{get_or-take}
use Rattle.std.proofs.Math.Seq.{length-take-le}
use lib.ListN.{get_or, take}
use mir.Val.{bool_byte}
use Rattle.machine.specs.Layout.{field}
use Rattle.machine.specs.Lent.{seen}
use Rattle.machine.specs.Refusals.{marked}
use Rattle.cells.specs.Cells.{top, far_in, marked_in}
use Rattle.cells.proofs.Clean.{count-more}
use Rattle.cells.proofs.good.values_good.Goals as goal
use Rattle.cells.proofs.good.values_good.Goals.{After-from-in-loop-word}

-- the word of a turn
word : (c : After-from-in-loop-word) → get_or (take (top (seen c.args.image.view)) c.args.image.view.heap.now) c.loop-word.word-index 0 ≡ get_or c.args.image.view.heap.now c.loop-word.word-index 0
unfolding field
word c = get_or-take (top (seen c.args.image.view)) c.args.image.view.heap.now c.loop-word.word-index 0 (omega (arith, length-take-le (top (seen c.args.image.view)) c.args.image.view.heap.now))

-- what it adds: 1 for a last cell that is not below H, 1 for bits that are set
far : (c : After-from-in-loop-word) → c.from.result ≡ bool_byte (far_in c.args.image.view.heap.now (top (seen c.args.image.view)) c.loop-word.word-index)
unfolding far_in field
far c = let e = word c in cc

bits : (c : After-from-in-loop-word) → c.from-in-loop-word.result ≡ bool_byte (marked_in c.args.image.view.heap.now c.loop-word.word-index)
unfolding marked_in marked field
bits c = let e = word c in cc

pub loop-word-preserved : goal.loop-word-preserved
loop-word-preserved c = count-more _ c.loop-word.invariant (far c) (bits c)
