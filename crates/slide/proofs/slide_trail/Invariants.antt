-- `slide::slide_trail` meets its contract. The loop's invariant is `Trailing`: the entries up to the T field met last are closed up, and
-- the fields before i are done. Assumes nothing.
use Rattle.slide.proofs.Trails.{Trailing}
use Rattle.slide.proofs.slide_trail.Given as goal

abbrev pub invariant-loop-i : goal.invariant-loop-i
invariant-loop-i l = Trailing l.initial.trail l.initial.stack l.counts l.notes l.t l.trail l.stack l.kept l.from l.i
