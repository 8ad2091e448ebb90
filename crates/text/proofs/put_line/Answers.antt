-- `text::put_line` meets its contract: three texts one after the other are one.
-- Assumes nothing.
use borrow.Author.Rules.{rules}
use Rattle.text.specs.Line.{line}
use Rattle.text.proofs.Puttings.{puts-join}
use Rattle.text.proofs.put_line.Goals as goal

pub returns : goal.returns
unfolding line
returns c = search (rules, puts-join)
