use Prim.Native.Nat.{◌<◌}
use native.Mathlib.Omega.{arith}
use lib.ListN.{length-take}
use lib.Seq.{get_or-take}
use Rattle.text.proofs.Puttings.{puts-as, putting-none, putting-more, putting-ends}
use Rattle.telling.specs.Text.{cell_lines}
use Rattle.telling.proofs.Cells.{lines-row, line-one, room-short}
use Rattle.telling.proofs.lines.put_chain.Goals as goal

pub loop-x-init : goal.loop-x-init
loop-x-init c = putting-none _ (lines-row _) _ _ _

pub put_cell-at-requires : goal.put_cell-at-requires
put_cell-at-requires c =
    let i = c.loop-x.x-index in
    let l : i < c.args.count = omega (arith, length-take c.args.count c.args.room.now) in
    rw (get_or-take c.args.count c.args.room.now i 0 l) (c.requires.inside i l)

pub loop-x-preserved : goal.loop-x-preserved
loop-x-preserved c =
    putting-more (cell_lines c.args.heap.now) (lines-row _) _ c.loop-x.invariant (omega arith) (puts-as (line-one c.args.heap.now _) c.put_cell-at.ensures)

pub returns : goal.returns
returns c =
    let a = c.args in
    record {
      puts = putting-ends (cell_lines a.heap.now) (lines-row _) _ c.loop-x.invariant (omega arith);
      short = room-short a.heap.now a.room.now a.count (λ i. (c.type_inv.heap i).fits) (λ i. (c.type_inv.room i).fits);
    }
