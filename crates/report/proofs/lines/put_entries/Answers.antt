-- `report::lines::put_entries` meets its contract: three texts one after the other are one.
-- Assumes nothing.
use Rattle.report.specs.Text.{entries_text}
use Rattle.text.proofs.Puttings.{short-exact, short-within, short-join}
use native.Mathlib.Omega.{arith}
use Rattle.report.proofs.lines.put_entries.Goals as goal

pub returns : goal.returns
unfolding entries_text
returns c =
    short-within (omega arith)
    (short-join (short-exact c.put_bytes-kept_at.ensures)
    (short-join c.put_spaced-dropped_at.ensures
    c.put_spaced.ensures))
