use borrow.Author.Rules.{rules}
use native.Mathlib.Omega.{arith}
use Rattle.mark.proofs.Stacks.{range_none, range-more, pushed-iff}
use Rattle.mark.proofs.push_range.Goals as goal

pub loop-x-init : goal.loop-x-init
loop-x-init c = search (rules, range_none)

pub loop-x-preserved : goal.loop-x-preserved
loop-x-preserved c = search (rules, range-more)

pub returns : goal.returns
returns c = pushed-iff (λ y r. omega arith) (λ y r. omega arith) c.loop-x.invariant.1
