-- `report::lines::put_closing` meets its contract: a word, the number of accepted files, their figures and the refusals.
-- Assumes nothing.
use Rattle.report.specs.Text.{closing}
use Rattle.text.proofs.Puttings.{short-exact, short-within, short-join}
use native.Mathlib.Omega.{arith}
use Rattle.report.proofs.lines.put_closing.Goals as goal

pub returns : goal.returns
unfolding closing
returns c =
    short-within (omega arith)
    (short-join (short-exact c.put_bytes-accepted_at.ensures)
    (short-join c.put_spaced-figures_at.ensures
    (short-join c.put_figures-refused_at.ensures
    c.put_numbers.ensures)))
