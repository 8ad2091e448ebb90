-- `telling::tell` meets its contract: a file that is not read, and an answer, each with its outcome (`Tellings`). The stack's front alone is lent to the answer.
-- Assumes nothing.
use Prim.Native.Nat.{◌≤◌}
use mathlib.Core.Path.{sym}
use mathlib.Core.List.{[]}
use native.Mathlib.Omega.{arith}
use lib.ListN.{length}
use lib.Seq.{length-take-le}
use Rattle.std.specs.Prelude.{Ok}
use Rattle.machine.specs.Layout.{Image}
use Rattle.freeze.specs.Thaw.{image_of, Thaws}
use Rattle.listing.proofs.Listings.{read_fits}
use Rattle.telling.proofs.Tellings.{tells-bad, tells-said}
use Rattle.telling.proofs.tell.Goals as goal
use Rattle.telling.proofs.tell.Goals.{In-Ok}

-- the lent areas, and what the reader left of them
abbrev lent : In-Ok → Image
lent c = image_of c.args.control.now c.args.stack.now c.args.heap.now c.args.trail.now

abbrev areas : In-Ok → Image
areas c = image_of c.thaw.new.control c.thaw.new.stack c.thaw.new.heap c.thaw.new.trail

thaws : (c : In-Ok) → Thaws c.args.file.now (lent c) (Ok c.in-Ok.counts) (areas c)
thaws c = rw c.in-Ok.is at c.thaw.ensures

front_fits : (c : In-Ok) → c.in-Ok.counts.stack ≤ length c.thaw.new.stack
front_fits c = omega (arith, (read_fits c.args.file.now (lent c) [] c.in-Ok.counts (areas c) (thaws c)).0, c.thaw.auto.stack)

pub returns-in-Err-clause-tells : goal.returns-in-Err-clause-tells
returns-in-Err-clause-tells c = tells-bad _ _ _ _ _ _ _ (rw c.in-Err.is at c.thaw.ensures) c.put_bad_file.ensures

pub slice_bounds-view-end : goal.slice_bounds-view-end
slice_bounds-view-end c = front_fits (goal.at.slice_bounds-view-end c).In-Ok

pub slice_bounds-view-end-2 : goal.slice_bounds-view-end-2
slice_bounds-view-end-2 c = sym (length-take-le _ _ (front_fits (goal.at.slice_bounds-view-end-2 c).In-Ok))

pub returns-clause-tells : goal.returns-clause-tells
returns-clause-tells c =
    let k = (goal.at.returns-clause-tells c).In-Ok in
    tells-said c.args.file.now (lent k) c.args.work.now c.args.index c.args.room.now c.in-Ok.counts (areas k) (thaws k) _ _ _
    c.why_held-why.ensures c.put_why.ensures.work_unchanged c.why_held-why.auto.room c.put_why.ensures.puts_short
