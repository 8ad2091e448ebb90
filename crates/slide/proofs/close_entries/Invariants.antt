-- `slide::close_entries` meets its contract. The loop's invariant is the contract itself with i for z: the entries before i are closed up.
-- Assumes nothing.
use Rattle.slide.specs.Closed.{EntriesClosed}
use Rattle.slide.proofs.close_entries.Given as goal

abbrev pub invariant-loop-i : goal.invariant-loop-i
invariant-loop-i l = EntriesClosed l.initial.trail l.counts l.notes l.a l.i l.to l.trail l.k
