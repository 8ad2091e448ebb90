-- `follow` meets its contract. The loop's invariant is `Following`; each turn looks into one more of the work words' cells. Assumes nothing.
use Prim.Native.Nat.{◌-◌}
use lib.ListN.{length}
use Rattle.queue.proofs.Following.{Following}
use Rattle.queue.proofs.follow.Given as goal

abbrev pub invariant-loop-i : goal.invariant-loop-i
invariant-loop-i l = Following l.heap l.initial.queue l.tail l.queue l.t l.next l.i

abbrev pub decreases-loop-i : goal.decreases-loop-i
decreases-loop-i l = length l.initial.queue - l.i
