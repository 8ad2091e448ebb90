-- `listing::lines::put_kept` meets its contract: seven texts one after the other are one.
-- Assumes nothing.
use native.Mathlib.Omega.{arith}
use Rattle.machine.specs.Answers.{answer_of}
use Rattle.listing.specs.Text.{kept_line}
use Rattle.text.proofs.Puttings.{short-exact, short-within, short-join}
use Rattle.listing.proofs.lines.put_kept.Goals as goal

pub returns : goal.returns
unfolding kept_line answer_of
returns c =
    short-within (omega arith)
    (short-join (short-exact c.put_bytes-kept.ensures)
    (short-join c.put_spaced-dropped.ensures
    (short-join c.put_spaced-trail.ensures
    (short-join (short-exact c.put_bytes-entries_kept.ensures)
    (short-join c.put_spaced-entries_dropped.ensures (short-join c.put_spaced-end.ensures (short-exact c.put_byte.ensures)))))))
