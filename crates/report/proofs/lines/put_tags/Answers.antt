-- `report::lines::put_tags` meets its contract: four numbers one after the other.
-- Assumes nothing.
use Rattle.report.specs.Text.{tags_text}
use Rattle.text.proofs.Puttings.{short-within, short-join}
use native.Mathlib.Omega.{arith}
use Rattle.report.proofs.lines.put_tags.Goals as goal

pub returns : goal.returns
unfolding tags_text
returns c =
    short-within (omega arith)
    (short-join c.put_spaced-structure_at.ensures
    (short-join c.put_spaced-list_at.ensures
    (short-join c.put_spaced-constant_at.ensures
    c.put_spaced.ensures)))
