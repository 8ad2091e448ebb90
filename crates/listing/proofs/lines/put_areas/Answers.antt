-- `listing::lines::put_areas` meets its contract: four lines, each as long as its register says; the stack's is whole.
-- Assumes nothing.
use mathlib.Core.Path.{sym}
use native.Mathlib.Omega.{arith}
use lib.Seq.{take-length}
use Rattle.machine.specs.Layout.{N, place_of, field}
use Rattle.text.specs.Line.{ascii, line}
use Rattle.listing.specs.Text.{area_lines}
use Rattle.text.proofs.Puttings.{short-within, short-join, short-of}
use Rattle.listing.proofs.lines.put_areas.Goals as goal

pub overflow_add-count : goal.overflow_add-count
overflow_add-count c = omega (arith, c.type_inv.control (place_of N))

pub returns : goal.returns
unfolding area_lines field
returns c =
    short-within (omega arith)
    (short-join c.put_words-stack_at.ensures
    (short-join (short-of (line (ascii "stack")) (sym (take-length _)) c.put_words-heap_at.ensures)
    (short-join c.put_words-trail_at.ensures c.put_words.ensures)))
