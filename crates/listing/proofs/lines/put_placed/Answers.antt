-- `listing::lines::put_placed` meets its contract: five texts one after the other are one.
-- Assumes nothing.
use native.Mathlib.Omega.{arith}
use Rattle.listing.specs.Text.{refused_text, place_text}
use Rattle.listing.proofs.Lengths.{short-name}
use Rattle.text.proofs.Puttings.{short-exact, short-within, short-join}
use Rattle.listing.proofs.lines.put_placed.Goals as goal

pub returns : goal.returns
unfolding refused_text place_text
returns c =
    short-within (omega arith)
    (short-join (short-exact c.put_bytes-number_at.ensures)
    (short-join c.put_spaced-area_at.ensures
    (short-join (short-join (short-name c.args.place.area c.put_area-index_at.ensures) c.put_spaced-end.ensures) (short-exact c.put_byte.ensures))))
