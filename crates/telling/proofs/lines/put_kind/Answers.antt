-- `telling::lines::put_kind` meets its contract: an argument, or the cell of the owner that is found; in the other areas there is no root, and no text.
-- Assumes nothing.
use Rattle.telling.specs.Text.{kind_text}
use Rattle.telling.proofs.lines.put_kind.Goals as goal

pub returns-in-Control-clause-puts_short : goal.returns-in-Control-clause-puts_short
unfolding kind_text
returns-in-Control-clause-puts_short c = rw c.in-Control.is c.put_argument.ensures

pub returns-in-Stack-clause-puts_short : goal.returns-in-Stack-clause-puts_short
unfolding kind_text
returns-in-Stack-clause-puts_short c = rw (c.in-Stack.is, c.owner_of-owner.ensures.owns.text) c.put_member.ensures
