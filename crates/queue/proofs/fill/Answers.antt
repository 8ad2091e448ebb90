-- `fill` meets its contract: the saved arguments are read, then the stack's cells, then the queue is followed. Assumes nothing.
use mathlib.Core.Path.{sym}
use Rattle.machine.specs.Layout.{field}
use Rattle.mark.proofs.Parted.{parted, low, front_length}
use Rattle.queue.proofs.Filling.{arguments-readable, cells-readable, queue-readable, no-level, filled}
use Rattle.queue.proofs.fill.Goals as goal

pub slice_bounds-queue-end : goal.slice_bounds-queue-end
unfolding field
slice_bounds-queue-end c =
    let k = parted c.requires c.split_at_mut-front.ensures.value c.split_at_mut-front.ensures.front_len in
    low k

pub slice_bounds-queue-end-2 : goal.slice_bounds-queue-end-2
unfolding field
slice_bounds-queue-end-2 c =
    let k = parted c.requires c.split_at_mut-front.ensures.value c.split_at_mut-front.ensures.front_len in
    sym (front_length k)

pub enter_arguments-t-requires : goal.enter_arguments-t-requires
unfolding field
enter_arguments-t-requires c =
    let k = parted c.requires c.split_at_mut-front.ensures.value c.split_at_mut-front.ensures.front_len in
    (c.requires.arguments, arguments-readable k)

pub enter_cells-u-requires-clause-readable : goal.enter_cells-u-requires-clause-readable
unfolding field
enter_cells-u-requires-clause-readable c =
    let k = parted c.requires c.split_at_mut-front.ensures.value c.split_at_mut-front.ensures.front_len in
    cells-readable k c.enter_arguments-t.ensures

pub follow-requires : goal.follow-requires
unfolding field
follow-requires c =
    let k = parted c.requires c.split_at_mut-front.ensures.value c.split_at_mut-front.ensures.front_len in
    let e = c.enter_arguments-t.ensures in
    (queue-readable k e c.enter_cells-u.ensures, no-level k e c.enter_cells-u.ensures)

pub returns : goal.returns
unfolding field
returns c =
    let k = parted c.requires c.split_at_mut-front.ensures.value c.split_at_mut-front.ensures.front_len in
    filled k c.enter_arguments-t.ensures c.enter_cells-u.ensures c.follow.auto.queue c.follow.ensures
