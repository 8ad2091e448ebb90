use native.Mathlib.Omega.{arith}
use Rattle.std.proofs.Common.{rules, tests}
use Rattle.telling.proofs.Numbers.{nothing-read, reading-more, reading-stray, reading-large, reading-ends}
use Rattle.telling.proofs.number.read_index.Goals as goal

pub returns-then-is_empty : goal.returns-then-is_empty
returns-then-is_empty c = nothing-read _ (search (rules, tests))

pub returns-then-not-is_ascii_digit : goal.returns-then-not-is_ascii_digit
returns-then-not-is_ascii_digit c = reading-stray c.loop-byte.invariant (omega arith) (search (rules, tests))

pub returns-then-n-ge-WORD_LIMIT : goal.returns-then-n-ge-WORD_LIMIT
returns-then-n-ge-WORD_LIMIT c = reading-large c.loop-byte.invariant (omega arith) (omega arith)

pub loop-byte-preserved : goal.loop-byte-preserved
loop-byte-preserved c = reading-more c.loop-byte.invariant (omega arith) (search (rules, tests)) (omega arith) (omega arith)

pub returns : goal.returns
returns c = reading-ends c.loop-byte.invariant (omega arith) (grind (arith, tests))
