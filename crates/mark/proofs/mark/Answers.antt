-- `mark` meets its contract: the saved arguments are pushed, then the stack's cells, then the pending cells are looked into. Assumes nothing.
use native.Mathlib.Omega.{arith}
use mathlib.Core.Path.{sym}
use Rattle.machine.specs.Layout.{field}
use Rattle.mark.proofs.Parted.{parted, low, front_length}
use Rattle.mark.proofs.Marking.{arguments-pushable, arguments-passable, cells-pushable, stack-passable, cells-keep-length, inside, ready, heap-passable, marks-reached}
use Rattle.mark.proofs.mark.Goals as goal

pub slice_bounds-marks-end : goal.slice_bounds-marks-end
unfolding field
slice_bounds-marks-end c =
    let k = parted c.requires c.split_at_mut-front.ensures.value c.split_at_mut-front.ensures.front_len in
    low k

pub slice_bounds-marks-end-2 : goal.slice_bounds-marks-end-2
unfolding field
slice_bounds-marks-end-2 c =
    let k = parted c.requires c.split_at_mut-front.ensures.value c.split_at_mut-front.ensures.front_len in
    sym (front_length k)

pub push_arguments-t-requires : goal.push_arguments-t-requires
unfolding field
push_arguments-t-requires c =
    let k = parted c.requires c.split_at_mut-front.ensures.value c.split_at_mut-front.ensures.front_len in
    record { control_in_bounds = (c.requires.arguments, arguments-pushable k); passable = arguments-passable k }

pub push_cells-u-requires : goal.push_cells-u-requires
unfolding field
push_cells-u-requires c =
    let k = parted c.requires c.split_at_mut-front.ensures.value c.split_at_mut-front.ensures.front_len in
    let e = c.push_arguments-t.ensures in
    record { noted = omega (arith, c.requires.room, c.split_at_mut-front.ensures.back_len); pushable = cells-pushable k e; passable = stack-passable k e }

pub drain-requires : goal.drain-requires
unfolding field
drain-requires c =
    let k = parted c.requires c.split_at_mut-front.ensures.value c.split_at_mut-front.ensures.front_len in
    let e = c.push_arguments-t.ensures in
    let f = c.push_cells-u.ensures in
    let l = cells-keep-length k e f in
    record { inside = inside k e f; marks_in_bounds = (omega (arith, l), omega (arith, l), ready k e f); passable = heap-passable k e f }

pub returns : goal.returns
unfolding field
returns c =
    let k = parted c.requires c.split_at_mut-front.ensures.value c.split_at_mut-front.ensures.front_len in
    marks-reached k c.push_arguments-t.ensures c.push_cells-u.ensures c.drain.ensures
