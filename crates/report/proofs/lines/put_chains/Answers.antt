-- `report::lines::put_chains` meets its contract: five texts one after the other are one.
-- Assumes nothing.
use Rattle.report.specs.Text.{chains_text}
use Rattle.text.proofs.Puttings.{short-exact, short-within, short-join}
use native.Mathlib.Omega.{arith}
use Rattle.report.proofs.lines.put_chains.Goals as goal

pub returns : goal.returns
unfolding chains_text
returns c =
    short-within (omega arith)
    (short-join (short-exact c.put_bytes-points_at.ensures)
    (short-join c.put_spaced-deepest_at.ensures
    (short-join (short-exact c.put_bytes-count_at.ensures)
    (short-join c.put_spaced-end.ensures
    (short-exact c.put_byte.ensures)))))
