-- `cells::good::values_good` meets its contract: no fault is counted before a word exactly where every cell before it is clean. Assumes
-- nothing.
use Prim.Native.Nat.{◌*◌, ◌≤◌}
use mathlib.Core.Path.{◌≡◌}
use mathlib.Core.Logic.{◌↔◌}
use Rattle.cells.specs.Cells.{far_in, marked_in, top, Clean}
use Rattle.machine.specs.Lent.{seen}
use Rattle.cells.proofs.good.values_good.Given as goal

abbrev pub invariant-loop-word : goal.invariant-loop-word
invariant-loop-word l =
    (l.wrong ≤ 2 * l.word-index) × ((l.wrong ≡ 0) ↔ Clean (marked_in l.image.view.heap.now) (far_in l.image.view.heap.now (top (seen l.image.view))) l.word-index)
