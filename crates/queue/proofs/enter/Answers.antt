-- `enter` meets its contract: a met cell is passed over; else there is a free place at the tail, and the sums fit. Assumes nothing.
use native.Mathlib.Omega.{arith}
use Prim.Native.Nat.{◌+◌, ◌<◌}
use mathlib.Core.Path.{◌≡◌, sym, ◌∙◌}
use lib.ListN.{get_or, set, length}
use borrow.Author.Tests.{eqb-true, eqb-false}
use Rattle.queue.specs.Filled.{met_bit}
use Rattle.queue.specs.Entering.{meet, put, old, new}
use Rattle.queue.proofs.Puts.{meet-free, meet-length, place}
use Rattle.queue.proofs.enter.Goals as goal
use Rattle.queue.proofs.enter.Goals.{Else-is_met}

-- x is not met: the queue has a place at its end, and the word there is small
unmet : (c : Else-is_met) → met_bit (get_or c.args.queue.now c.args.x 0) ≡ 0
unmet c = omega (arith, eqb-false (met_bit (get_or c.args.queue.now c.args.x 0)) 1 (sym c.is_met.ensures ∙ c.if-is_met.false))

free : (c : Else-is_met) → c.args.tail < length c.args.queue.now
free c = place c.args.queue.now c.args.tail c.args.x c.requires.0 c.requires.1 (unmet c)

room : (c : Else-is_met) → c.args.tail < length (set c.args.queue.now c.args.x (get_or c.args.queue.now c.args.x 0 + 1))
unfolding meet
room c = omega (arith, (free c), meet-length c.args.queue.now c.args.x)

low : (c : Else-is_met) → get_or (set c.args.queue.now c.args.x (get_or c.args.queue.now c.args.x 0 + 1)) c.args.tail 0 < 2
unfolding meet
low c = meet-free c.args.queue.now c.args.tail c.args.x c.requires.1 (free c) (unmet c) c.args.tail (c.requires.0.free c.args.tail (omega arith))

pub returns-then-is_met : goal.returns-then-is_met
returns-then-is_met c = old (eqb-true _ _ (sym c.is_met.ensures ∙ c.if-is_met.true))

pub bounds-queue-tail : goal.bounds-queue-tail
bounds-queue-tail c = room (goal.at.bounds-queue-tail c).Else-is_met

pub bounds-queue-tail-2 : goal.bounds-queue-tail-2
bounds-queue-tail-2 c = room (goal.at.bounds-queue-tail-2 c).Else-is_met

pub returns : goal.returns
unfolding meet put
returns c = new (unmet (goal.at.returns c).Else-is_met)
