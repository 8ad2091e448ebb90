-- `tally::Tags::each` meets its contract: the operation may be called on the counts of each tag. Assumes nothing.
use Rattle.tally.specs.Figures.{var, structure, list, constant}
use Rattle.tally.proofs.Tags.each.Goals as goal

pub f-requires : goal.f-requires
f-requires g c = c.requires var

pub f-requires-2 : goal.f-requires-2
f-requires-2 g c = c.requires structure

pub f-requires-3 : goal.f-requires-3
f-requires-3 g c = c.requires list

pub f-requires-4 : goal.f-requires-4
f-requires-4 g c = c.requires constant
