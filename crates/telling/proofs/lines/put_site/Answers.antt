-- `telling::lines::put_site` meets its contract: four texts one after the other are one.
-- Assumes nothing.
use native.Mathlib.Omega.{arith}
use Rattle.text.proofs.Puttings.{short-exact, short-within, short-join}
use Rattle.listing.proofs.Lengths.{short-name}
use Rattle.telling.specs.Text.{site_text}
use Rattle.telling.proofs.lines.put_site.Goals as goal

pub returns : goal.returns
unfolding site_text
returns c =
    short-within (omega arith)
    (short-join (short-exact c.put_byte-area_at.ensures)
    (short-join (short-name c.args.root.area c.put_area-index_at.ensures) (short-join c.put_spaced-end.ensures (short-exact c.put_byte.ensures))))
