-- `listing::lines::put_number_alone` meets its contract: three texts one after the other are one.
-- Assumes nothing.
use native.Mathlib.Omega.{arith}
use Rattle.listing.specs.Text.{refused_text, place_text}
use Rattle.text.proofs.Puttings.{short-exact, short-within, short-join}
use Rattle.listing.proofs.lines.put_number_alone.Goals as goal

pub returns : goal.returns
unfolding refused_text place_text
returns c =
    short-within (omega arith)
    (short-join (short-exact c.put_bytes-number_at.ensures) (short-join c.put_spaced-end.ensures (short-exact c.put_byte.ensures)))
