-- `report::lines::put_number` meets its contract: no line for a number under which nothing was refused, and else one.
-- Assumes nothing.
use Rattle.text.proofs.Puttings.{short-exact, short-join}
use Rattle.report.proofs.Numberings.{no_line, some-line}
use Rattle.report.proofs.lines.put_number.Goals as goal

pub returns-then-count-eq0 : goal.returns-then-count-eq0
returns-then-count-eq0 c = no_line _ _ _ c.if-count-eq0.true

pub returns : goal.returns
returns c =
    some-line c.args.number c.args.count c.if-count-eq0.false
    (short-join (short-exact c.put_bytes-number_at.ensures)
    (short-join c.put_spaced-count_at.ensures
    (short-join c.put_spaced-end.ensures
    (short-exact c.put_byte.ensures))))
