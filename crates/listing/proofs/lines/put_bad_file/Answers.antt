-- `listing::lines::put_bad_file` meets its contract: the line of the number and the offset that the refusal has.
-- Assumes nothing.
use mathlib.Core.Path.{sym}
use Rattle.listing.specs.Lines.{file_verdict_text}
use Rattle.text.proofs.Puttings.{short-of}
use Rattle.listing.proofs.lines.put_bad_file.Goals as goal

pub returns : goal.returns
unfolding file_verdict_text
returns c = short-of file_verdict_text (sym c.fault-fault.ensures) c.put_file.ensures
