-- `report::lines::put_figures` meets its contract: three texts one after the other are one.
-- Assumes nothing.
use Rattle.report.specs.Text.{figures_text}
use Rattle.text.proofs.Puttings.{short-within, short-join}
use native.Mathlib.Omega.{arith}
use Rattle.report.proofs.lines.put_figures.Goals as goal

pub returns : goal.returns
unfolding figures_text
returns c =
    short-within (omega arith)
    (short-join c.put_cells-entries_at.ensures
    (short-join c.put_entries-chains_at.ensures
    c.put_chains.ensures))
