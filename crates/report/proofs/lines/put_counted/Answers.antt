-- `report::lines::put_counted` meets its contract: a word, the number of the file and its figures.
-- Assumes nothing.
use Rattle.report.specs.Text.{counted_file}
use Rattle.text.proofs.Puttings.{short-exact, short-within, short-join}
use native.Mathlib.Omega.{arith}
use Rattle.report.proofs.lines.put_counted.Goals as goal

pub returns : goal.returns
unfolding counted_file
returns c =
    short-within (omega arith)
    (short-join (short-exact c.put_bytes-number_at.ensures)
    (short-join c.put_spaced-figures_at.ensures
    c.put_figures.ensures))
