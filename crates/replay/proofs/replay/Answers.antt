use mathlib.Core.Path.{refl}
use native.Mathlib.Omega.{arith}
use borrow.Author.Rules.{rules}
use borrow.Author.Tests.{not-true, not-false}
use Rattle.replay.proofs.Turning.{replaying-none, replaying-more, replaying-stop, replaying-end}
use Rattle.replay.proofs.replay.Goals as goal

pub loop-i-init : goal.loop-i-init
loop-i-init c = (replaying-none _, refl, refl, refl, refl, refl)

pub returns-then-not-call : goal.returns-then-not-call
returns-then-not-call c = replaying-stop c.loop-i.invariant.0 (omega arith) c.call.ensures (search not-true)

pub loop-i-preserved : goal.loop-i-preserved
loop-i-preserved c = (replaying-more c.loop-i.invariant.0 (omega arith) c.call.ensures (search not-false), search rules, search rules, search rules, search rules, search rules)

pub returns : goal.returns
returns c = replaying-end c.loop-i.invariant.0 (omega arith)
