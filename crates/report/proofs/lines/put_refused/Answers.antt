-- `report::lines::put_refused` meets its contract: a word, the number of the file and the line of the refusal.
-- Assumes nothing.
use Rattle.report.specs.Text.{refused_file}
use Rattle.text.proofs.Puttings.{short-exact, short-within, short-join}
use native.Mathlib.Omega.{arith}
use Rattle.report.proofs.lines.put_refused.Goals as goal

pub returns : goal.returns
unfolding refused_file
returns c =
    short-within (omega arith)
    (short-join (short-exact c.put_bytes-number_at.ensures)
    (short-join c.put_spaced-space_at.ensures
    (short-join (short-exact c.put_byte-refusal_at.ensures)
    c.put_refusal.ensures)))
