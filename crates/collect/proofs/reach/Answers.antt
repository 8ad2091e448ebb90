-- `collect::reach` meets its contract: what `mark` marks and `count` counts is what is reached. Assumes nothing.
use native.Mathlib.Omega.{arith}
use Rattle.machine.specs.Layout.{field}
use Rattle.collect.proofs.Marking.{markable}
use Rattle.collect.proofs.Phases.{reaches}
use Rattle.collect.proofs.reach.Goals as goal
use Rattle.collect.proofs.reach.Goals.{After-mark}

pub mark-requires : goal.mark-requires
mark-requires c = let r = c.requires in markable r.accepted r.noted r.room r.blank

pub count-requires : goal.count-requires
unfolding field
count-requires c =
    let r = c.requires in
    let p = markable r.accepted r.noted r.room r.blank in
    (omega (arith, p.top, p.room, c.mark.ensures.same), omega (arith, p.top, p.small))

pub returns : goal.returns
unfolding field
returns c = reaches c.requires c.mark.ensures c.count.ensures
