-- `listing::lines::put_file` meets its contract: four texts one after the other are one.
-- Assumes nothing.
use native.Mathlib.Omega.{arith}
use Rattle.listing.specs.Text.{file_text}
use Rattle.text.proofs.Puttings.{short-exact, short-within, short-join}
use Rattle.listing.proofs.lines.put_file.Goals as goal

pub returns : goal.returns
unfolding file_text
returns c =
    short-within (omega arith)
    (short-join (short-exact c.put_bytes-number_at.ensures)
    (short-join c.put_spaced-offset_at.ensures (short-join c.put_spaced-end.ensures (short-exact c.put_byte.ensures))))
