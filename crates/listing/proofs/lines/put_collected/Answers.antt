-- `listing::lines::put_collected` meets its contract: the first line, the areas and the last line.
-- Assumes nothing.
use native.Mathlib.Omega.{arith}
use Rattle.listing.specs.Text.{collected_text}
use Rattle.text.proofs.Puttings.{short-exact, short-within, short-join}
use Rattle.listing.proofs.lines.put_collected.Goals as goal

pub returns : goal.returns
unfolding collected_text
returns c = short-within (omega arith) (short-join c.put_kept-areas_at.ensures (short-join c.put_areas-end_at.ensures (short-exact c.put_bytes.ensures)))
