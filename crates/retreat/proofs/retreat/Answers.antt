-- `retreat::retreat` meets its contract: in an accepted image the newest choice point lies inside the stack and its entries can be undone, so
-- without 8 and 9 undo and copy leave `stepped`. Assumes nothing.
use mathlib.Core.Path.{refl}
use native.Mathlib.Omega.{arith}
use Rattle.machine.specs.Layout.{field}
use Rattle.machine.specs.Stepped.{newest, undone}
use Rattle.machine.proofs.Chains.{Bounds}
use Rattle.machine.proofs.Accepted.{Granted}
use Rattle.machine.proofs.Images.{image_of}
use Rattle.retreat.proofs.Undoing.{undid-stack-length}
use Rattle.retreat.proofs.Stepping.{stepped-is, newest-bounds, newest-undoable}
use Rattle.retreat.proofs.Answering.{retreats-none, retreats-short, retreats-done}
use Rattle.retreat.proofs.retreat.Goals as goal
use Rattle.retreat.proofs.retreat.Goals.{Else-newest}

bounds : (c : Else-newest) → Bounds (image_of c.args.control.now c.args.stack.now c.args.heap.now c.args.trail.now) (newest (image_of c.args.control.now c.args.stack.now c.args.heap.now c.args.trail.now))
unfolding field
bounds c = newest-bounds (image_of c.args.control.now c.args.stack.now c.args.heap.now c.args.trail.now) c.requires c.if-newest.false

pub returns-then-newest : goal.returns-then-newest
unfolding field
returns-then-newest c = retreats-none _ c.if-newest.true

pub overflow_cast-b : goal.overflow_cast-b
unfolding field
overflow_cast-b c = omega (arith, bounds (goal.at.overflow_cast-b c).Else-newest)

pub overflow_add-count : goal.overflow_add-count
unfolding field
overflow_add-count c = omega (arith, bounds (goal.at.overflow_add-count c).Else-newest)

pub offset_bounds-stack-b : goal.offset_bounds-stack-b
unfolding field
offset_bounds-stack-b c = omega (arith, bounds (goal.at.offset_bounds-stack-b c).Else-newest)

pub bounds-stack-b : goal.bounds-stack-b
unfolding field
bounds-stack-b c = omega (arith, bounds (goal.at.bounds-stack-b c).Else-newest)

pub overflow_add-count-2 : goal.overflow_add-count-2
unfolding field
overflow_add-count-2 c = omega (arith, bounds (goal.at.overflow_add-count-2 c).Else-newest)

pub returns-then-control-count : goal.returns-then-control-count
unfolding field
returns-then-control-count c = retreats-short _ c.if-newest.false c.if-control-count.true

pub overflow_add-since : goal.overflow_add-since
unfolding field
overflow_add-since c = omega (arith, bounds (goal.at.overflow_add-since c).Else-newest)

pub offset_bounds-stack-b-2 : goal.offset_bounds-stack-b-2
unfolding field
offset_bounds-stack-b-2 c = omega (arith, bounds (goal.at.offset_bounds-stack-b-2 c).Else-newest)

pub bounds-stack-b-2 : goal.bounds-stack-b-2
unfolding field
bounds-stack-b-2 c = omega (arith, bounds (goal.at.bounds-stack-b-2 c).Else-newest)

pub undo-requires : goal.undo-requires
unfolding field
undo-requires c =
    newest-undoable (image_of c.args.control.now c.args.stack.now c.args.heap.now c.args.trail.now) c.requires c.if-newest.false

pub copy-requires : goal.copy-requires
unfolding field
copy-requires c =
    (omega (arith, c.if-control-count.false), omega (arith, bounds (goal.at.copy-requires c).Else-newest, undid-stack-length c.undo.ensures))

pub overflow_sub-result : goal.overflow_sub-result
unfolding field
overflow_sub-result c = (bounds (goal.at.overflow_sub-result c).Else-newest).trail

pub returns : goal.returns
unfolding field undone
returns c =
    let X = (image_of c.args.control.now c.args.stack.now c.args.heap.now c.args.trail.now) in
    let g : Granted X = record { some = c.if-newest.false; room = c.if-control-count.false } in
    retreats-done X g _ refl _ (stepped-is X _ _ _ c.undo.ensures c.copy.ensures)
