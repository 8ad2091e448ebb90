use native.Mathlib.Omega.{arith}
use lib.ListN.{get_or}
use Rattle.slide.specs.Closed.{Named}
use Rattle.slide.proofs.Closing.{counted, passed-at}
use Rattle.slide.proofs.Entries.{entries-turn}
use Rattle.slide.proofs.close_entries.Goals as goal
use Rattle.slide.proofs.close_entries.Goals.{In-loop-i}

-- the entry at i has a count or a note
names : (c : In-loop-i) → Named c.args.counts.now c.args.notes.now (get_or c.loop-i.trail c.loop-i.i 0)
names c =
    rw (passed-at c.loop-i.invariant.passed c.loop-i.i (omega arith)) (c.requires.named c.loop-i.i (omega arith) (omega arith))

pub moved_entry-requires : goal.moved_entry-requires
moved_entry-requires c = (names (goal.at.moved_entry-requires c).In-loop-i).heap_cell

pub keeps-requires : goal.keeps-requires
keeps-requires c = names (goal.at.keeps-requires c).In-loop-i

pub loop-i-preserved : goal.loop-i-preserved
loop-i-preserved c =
    entries-turn c.loop-i.invariant (omega arith) (omega (arith, c.requires.inside)) c.keeps.ensures (counted _ _ c.moved_entry.ensures c.from-k.ensures)
