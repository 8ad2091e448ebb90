-- `tally::count_file` meets its contract: a file that is not read, and an image that is counted (`Filing`). The stack's front is lent and
-- is put back before the rest. Assumes nothing.
use Prim.Native.Nat.{◌≤◌}
use mathlib.Core.Path.{◌≡◌, sym, ◌∙◌}
use mathlib.Core.List.{◌++◌}
use native.Mathlib.Omega.{arith}
use lib.ListN.{length, drop}
use lib.Seq.{length-take-le}
use Rattle.std.proofs.lemmas.Result.{err_from_is_err_and}
use Rattle.machine.specs.Layout.{Image}
use Rattle.freeze.specs.Thaw.{image_of}
use Rattle.listing.specs.Lists.{joined}
use Rattle.tally.proofs.Filing.{file-bad, stack-fits, control-fits, heap-fits, file-counted}
use Rattle.tally.proofs.count_file.Goals as goal
use Rattle.tally.proofs.count_file.Goals.{In_ok-counts, After-count_image}

-- the lent areas, and what the reader left of them
abbrev lent : In_ok-counts → Image
lent c = image_of c.args.control.now c.args.stack.now c.args.heap.now c.args.trail.now

abbrev areas : In_ok-counts → Image
areas c = image_of c.thaw.new.control c.thaw.new.stack c.thaw.new.heap c.thaw.new.trail

front_fits : (c : In_ok-counts) → c.in_ok-counts.counts.stack ≤ length c.thaw.new.stack
front_fits c = stack-fits c.args.file.now (lent c) c.args.work.now c.in_ok-counts.counts (areas c) c.in_ok-counts.ensures c.thaw.auto.stack

-- the image that was counted, with the front of the stack alone
abbrev Y : After-count_image → Image
Y c = image_of c.count_image.new.control c.count_image.new.stack c.count_image.new.heap c.count_image.new.trail

pub returns-in_err-counts : goal.returns-in_err-counts
returns-in_err-counts c =
    let p = err_from_is_err_and c.from_residual.result c.from_residual.ensures.1 in rw (p.1, p.2) (file-bad _ _ _ _ _ c.in_err-counts.ensures)

pub slice_bounds-count_image-end : goal.slice_bounds-count_image-end
slice_bounds-count_image-end c = front_fits (goal.at.slice_bounds-count_image-end c).In_ok-counts

pub slice_bounds-count_image-end-2 : goal.slice_bounds-count_image-end-2
slice_bounds-count_image-end-2 c = sym (length-take-le _ _ (front_fits (goal.at.slice_bounds-count_image-end-2 c).In_ok-counts))

pub count_image-requires : goal.count_image-requires
count_image-requires c =
    let k = (goal.at.count_image-requires c).In_ok-counts in (
      control-fits c.args.file.now (lent k) c.args.work.now c.in_ok-counts.counts (areas k) c.in_ok-counts.ensures c.thaw.auto.control,
      heap-fits c.args.file.now (lent k) c.args.work.now c.in_ok-counts.counts (areas k) c.in_ok-counts.ensures (λ i. omega (arith, c.type_inv.file i)) (front_fits k) c.thaw.auto.heap,
    )

-- all areas at exit: the stack's front is as long as counted
left_is : (k : In_ok-counts) (m : After-count_image) → (length (Y m).stack ≡ k.in_ok-counts.counts.stack)
    → image_of (Y m).control ((Y m).stack ++ drop k.in_ok-counts.counts.stack (areas k).stack) (Y m).heap (Y m).trail ≡ joined (areas k) (Y m)
unfolding joined
left_is k m e = λ i. image_of (Y m).control ((Y m).stack ++ drop (sym e i) (areas k).stack) (Y m).heap (Y m).trail

pub returns : goal.returns
returns c =
    let k = (goal.at.returns c).In_ok-counts in
    let m = (goal.at.returns c).After-count_image in
    file-counted c.args.file.now (lent k) c.args.work.now c.in_ok-counts.counts (areas k) c.in_ok-counts.ensures c.count_image.ensures
    (left_is k m (c.count_image.auto.stack ∙ length-take-le _ c.thaw.new.stack (front_fits k)))
