-- `text::put_spaced` meets its contract: a space and a number, of at most 20 digits.
-- Assumes nothing.
use native.Mathlib.Omega.{arith}
use borrow.Author.Rules.{rules}
use Rattle.text.specs.Line.{spaced}
use Rattle.text.proofs.Lengths.{number_short}
use Rattle.text.proofs.Puttings.{puts-join}
use Rattle.text.proofs.put_spaced.Goals as goal

pub returns : goal.returns
unfolding spaced
returns c = record { puts = search (rules, puts-join); short = number_short _ (omega arith) }
