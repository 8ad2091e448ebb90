-- `telling::lines::put_cell` meets its contract: four texts one after the other are one, of the cell's index, tag and value.
-- Assumes nothing.
use mathlib.Core.Path.{sym}
use Rattle.text.specs.Line.{spaced}
use Rattle.text.proofs.Puttings.{puts-join, puts_of}
use Rattle.telling.specs.Text.{tag_name, cell_line}
use Rattle.telling.proofs.lines.put_cell.Goals as goal

pub returns : goal.returns
unfolding cell_line
returns c =
    puts-join c.put_number-tag_at.ensures
    (puts-join (puts_of tag_name (sym c.of.ensures) c.put_tag-value_at.ensures)
    (puts-join (puts_of spaced (sym c.value.ensures) c.put_spaced-end.ensures.puts) c.put_byte.ensures))
