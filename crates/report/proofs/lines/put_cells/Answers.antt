-- `report::lines::put_cells` meets its contract: four texts one after the other are one.
-- Assumes nothing.
use Rattle.report.specs.Text.{cells_text}
use Rattle.text.proofs.Puttings.{short-exact, short-within, short-join}
use native.Mathlib.Omega.{arith}
use Rattle.report.proofs.lines.put_cells.Goals as goal

pub returns : goal.returns
unfolding cells_text
returns c =
    short-within (omega arith)
    (short-join (short-exact c.put_bytes-kept_at.ensures)
    (short-join c.put_tags-dropped_at.ensures
    (short-join (short-exact c.put_bytes-counts_at.ensures)
    c.put_tags.ensures)))
