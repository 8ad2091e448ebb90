-- `tally::count_image` meets its contract: the collector's answer decides, and what was read is of the image as it was (`Imaging`). Assumes
-- nothing.
use mathlib.Core.Path.{◌≡◌}
use Rattle.std.proofs.lemmas.Result.{err_from_is_err_and}
use Rattle.machine.specs.Layout.{H, field}
use Rattle.tally.specs.Parts.{read_tally}
use Rattle.tally.proofs.Imaging.{after-collection, image-counted, image-refused}
use Rattle.tally.proofs.count_image.Goals as goal
use Rattle.tally.proofs.count_image.Goals.{After-read_heap-read}

was_read : (c : After-read_heap-read) → c.read_heap-read.result ≡ read_tally c.args.heap.now (field c.args.control.now 0 H)
unfolding field
was_read c = c.read_heap-read.ensures

pub read_heap-read-requires : goal.read_heap-read-requires
unfolding field
read_heap-read-requires c = c.requires.1

pub returns-in_err-done : goal.returns-in_err-done
returns-in_err-done c =
    let p = err_from_is_err_and c.from_residual.result c.from_residual.ensures.1 in rw (p.1, p.2) (image-refused c.in_err-done.ensures)

pub figures-requires : goal.figures-requires
figures-requires c = after-collection c.in_ok-done.ensures (was_read (goal.at.figures-requires c).After-read_heap-read)

pub returns : goal.returns
returns c = image-counted c.in_ok-done.ensures (was_read (goal.at.returns c).After-read_heap-read) c.figures.ensures.value c.figures.ensures.work_unchanged
