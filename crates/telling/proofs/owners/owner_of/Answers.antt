-- `telling::owners::owner_of` meets its contract: the walk notes every role, and the notes show the owner that the text speaks of (`Rooting`).
-- Assumes nothing.
use mathlib.Core.Path.{refl}
use native.Mathlib.Omega.{arith}
use lib.ListN.{length}
use Rattle.std.proofs.lemmas.List.{take_rest}
use Rattle.machine.specs.Lent.{seen}
use Rattle.telling.proofs.Rooting.{rooted-blank, walk-ends, walked-cleared, root-owned, root-owns}
use Rattle.telling.proofs.owners.owner_of.Goals as goal

pub walk-requires : goal.walk-requires
walk-requires c = rooted-blank c.requires

pub unwrap-requires : goal.unwrap-requires
unwrap-requires c = walk-ends c.requires _ (c.walk.ensures (seen c.args.view) refl refl)

pub slice_bounds-noted_owner-start : goal.slice_bounds-noted_owner-start
slice_bounds-noted_owner-start c = omega (arith, (rooted-blank c.requires).room, (c.walk.ensures (seen c.args.view) refl refl).same)

pub slice_bounds-noted_owner-count : goal.slice_bounds-noted_owner-count
slice_bounds-noted_owner-count c = omega (arith, (rooted-blank c.requires).room, (c.walk.ensures (seen c.args.view) refl refl).same)

pub noted_owner-owner-requires : goal.noted_owner-owner-requires
noted_owner-owner-requires c = rw (take_rest c.walk.new.work (length c.args.view.heap.now)) (root-owned c.requires (rw c.unwrap.ensures at (c.walk.ensures (seen c.args.view) refl refl)))

pub clear-requires : goal.clear-requires
clear-requires c = omega (arith, (rooted-blank c.requires).room, (c.walk.ensures (seen c.args.view) refl refl).same)

pub returns-clause-owns : goal.returns-clause-owns
returns-clause-owns c = root-owns c.requires (rw c.unwrap.ensures at (c.walk.ensures (seen c.args.view) refl refl)) (rw (take_rest c.walk.new.work (length c.args.view.heap.now)) at c.noted_owner-owner.ensures)

pub returns-clause-work_unchanged : goal.returns-clause-work_unchanged
returns-clause-work_unchanged c = walked-cleared c.requires (rw c.unwrap.ensures at (c.walk.ensures (seen c.args.view) refl refl)) _ c.clear.ensures
