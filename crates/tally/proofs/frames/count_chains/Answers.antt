-- `tally::frames::count_chains` meets its contract: the control area's chain, and then the choice points. Assumes nothing.
use Rattle.std.proofs.Common.{rules}
use Rattle.machine.specs.Layout.{field}
use Rattle.tally.proofs.Points.{chains-counted}
use Rattle.tally.proofs.frames.count_chains.Goals as goal

pub depth-own-requires : goal.depth-own-requires
unfolding field
depth-own-requires c = c.requires.chained

pub count_points-requires-clause-pointed : goal.count_points-requires-clause-pointed
unfolding field
count_points-requires-clause-pointed c = rw c.depth-own.ensures.same_stack c.requires.pointed

pub returns : goal.returns
unfolding field
returns c = search (rules, chains-counted)
