-- `functors::tallies::apart` meets its contract: the structures met so far lie apart, and all end below `free`. Assumes nothing.
use Rattle.functors.proofs.Apart.{Scanned}
use Rattle.functors.proofs.tallies.apart.Given as goal

abbrev pub invariant-loop-x : goal.invariant-loop-x
invariant-loop-x l = Scanned l.heap l.work l.free l.x
