-- `admit::check_noted` meets its contract: the first check that refuses is the answer. Assumes nothing.
use mathlib.Core.Path.{refl}
use Rattle.std.proofs.lemmas.Result.{err_from_is_err_and}
use Rattle.admit.proofs.Words.{words-refused, words-passed, noted-refused, noted-passed, noted-checkable}
use Rattle.admit.proofs.check_noted.Goals as goal

pub check_cells-requires : goal.check_cells-requires
check_cells-requires c = let p = c.requires in record { top = p.fits.heap; small = p.sizes.heap; low = p.sizes.stack; room = p.right.room; arguments = p.fits.control }

pub check_entries-requires : goal.check_entries-requires
check_entries-requires c = let p = c.requires in record { registers = p.sizes.least; top = p.fits.trail; room = p.right.room }

pub check_first-requires : goal.check_first-requires
check_first-requires c = noted-checkable c.requires (words-passed (c.in_ok-check_cells.ensures _ refl refl refl c.requires.right) (c.in_ok-check_entries.ensures _ refl refl refl c.requires.right))

pub returns-in_err-check_cells : goal.returns-in_err-check_cells
returns-in_err-check_cells c =
    let p = err_from_is_err_and c.from_residual.result c.from_residual.ensures.1 in
    rw (p.1, p.2) (noted-refused (words-refused (c.in_err-check_cells.ensures _ refl refl refl c.requires.right)))

pub returns-in_err-check_entries : goal.returns-in_err-check_entries
returns-in_err-check_entries c =
    let p = err_from_is_err_and c.from_residual-in_err-check_entries.result c.from_residual-in_err-check_entries.ensures.1 in
    rw (p.1, p.2) (noted-refused (words-passed (c.in_ok-check_cells.ensures _ refl refl refl c.requires.right) (c.in_err-check_entries.ensures _ refl refl refl c.requires.right)))

pub returns : goal.returns
returns c =
    noted-passed (words-passed (c.in_ok-check_cells.ensures _ refl refl refl c.requires.right) (c.in_ok-check_entries.ensures _ refl refl refl c.requires.right)) c.check_first.ensures
