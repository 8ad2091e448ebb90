-- `cells::good::all_good` meets its contract: three clean areas pass both checks. Assumes nothing.
use mathlib.Core.Path.{◌≡◌, sym, ◌∙◌}
use mathlib.Core.Bool.{true}
use lib.ListN.{length}
use Rattle.cells.specs.declared.places.Bad.{Bad}
use Rattle.cells.specs.declared.places.Bad.TheVariants.{Bits, Reference}
use Rattle.machine.specs.Lent.{seen}
use Rattle.machine.specs.Refusals.{accepted, first_of, bad_heap}
use Rattle.machine.proofs.Tests.{true-false}
use Rattle.cells.specs.Cells.{top, marked_in, marked_cell, wrong_stack, on_heap, on_stack, on_control, checks_of, Clean}
use Rattle.cells.proofs.Areas.{areas-pass}
use Rattle.cells.proofs.Clean.{every-clean}
use Rattle.cells.proofs.good.all_good.Goals as goal
use Rattle.cells.proofs.good.all_good.Goals.{After-control_good, then-heap_good, else-heap_good}

both : (c : After-control_good) → Clean (marked_in c.args.image.view.heap.now) (bad_heap (seen c.args.image.view)) (top (seen c.args.image.view)) × Clean (marked_cell (seen c.args.image.view) c.args.image.work.now c.args.image.notes) (wrong_stack (seen c.args.image.view) c.args.image.work.now c.args.image.notes) (length c.args.image.view.stack.now)
both c =
    elim c.if-heap_good.branch [
      | then-heap_good w ↦ (c.heap_good.ensures w.if-heap_good.true, every-clean _ _ _ w.stack_good.ensures (sym w.value-is ∙ c.if-stack_good.true))
      | else-heap_good w ↦ true-false c.if-stack_good.true (w.value-is ∙ w.if-heap_good.false)
    ]

passes : (c : After-control_good) (bad : Bad) → c.control_good.result ≡ true → first_of (checks_of bad (seen c.args.image.view) c.args.image.work.now c.args.image.notes) ≡ accepted
unfolding checks_of on_heap on_stack on_control
passes c Bits e = let b = both c in areas-pass 5 _ _ _ _ _ _ b.0.unmarked b.1.unmarked (every-clean _ _ _ c.control_good.ensures e).unmarked
passes c Reference e = let b = both c in areas-pass 6 _ _ _ _ _ _ b.0.well b.1.well (every-clean _ _ _ c.control_good.ensures e).well

pub returns-then-stack_good : goal.returns-then-stack_good
returns-then-stack_good c = passes c
