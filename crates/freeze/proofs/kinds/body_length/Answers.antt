-- `freeze::kinds::body_length` meets its contract: the table's rule below 32, and the mark from there on.
-- Assumes nothing.
use mathlib.Core.Path.{sym, ◌∙◌}
use borrow.Author.Rules.{rules}
use Rattle.freeze.proofs.KindLaws.{table-rule, past-table}
use Rattle.freeze.proofs.kinds.body_length.Goals as goal

pub returns-in-Some : goal.returns-in-Some
returns-in-Some c = c.in-Some.ensures.lookup.1 ∙ table-rule _ _ (search rules)

pub returns-in-None : goal.returns-in-None
returns-in-None c = sym (past-table _ (search rules))
