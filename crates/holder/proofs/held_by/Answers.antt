-- `holder::held_by` meets its contract: the cell's place is found, and the chain to it is traced if the room takes it. Assumes nothing.
use native.Mathlib.Omega.{arith}
use Rattle.holder.specs.Tracing.{short}
use Rattle.holder.proofs.Holding.{place_there, place_found, traced-long, answered-found}
use Rattle.holder.proofs.held_by.Goals as goal
use Rattle.holder.proofs.held_by.Goals.{After-unwrap-j}

pub unwrap-j-requires : goal.unwrap-j-requires
unwrap-j-requires c = place_there _ c.requires c.place_of.ensures

pub returns-then-room-length : goal.returns-then-room-length
returns-then-room-length c =
    let p = place_found _ _ (rw c.unwrap-j.ensures at c.place_of.ensures) in
    record { at = c.unwrap-j.result; low = p.0; there = p.1; answered = short (omega (arith, c.depth-length.ensures)) }

pub bounds-room-0 : goal.bounds-room-0
bounds-room-0 c = traced-long c.trace.ensures

pub returns : goal.returns
returns c =
    let p = place_found _ _ (rw c.unwrap-j.ensures at c.place_of.ensures) in
    record { at = c.unwrap-j.result; low = p.0; there = p.1; answered = answered-found c.trace.ensures c.depth-length.ensures (omega arith) c.root_of-root.ensures }
