use Rattle.std.proofs.Common.{sym, ap, ◌∙◌, arith}
use Rattle.tally.specs.Parts.{read_tally}
use Rattle.tally.specs.Totals.{with_read}
use Rattle.tally.proofs.Tagged.{front-below, front-word, front-end, read_none, read_next, read-room}
use Rattle.tally.proofs.heaps.read_heap.Goals as goal

pub loop-word-init : goal.loop-word-init
loop-word-init c = c.empty-tally.ensures ∙ sym (read_none _)

pub read-tally-requires : goal.read-tally-requires
read-tally-requires c =
    let d = c.loop-word in
    rw d.invariant (read-room _ d.word-index (omega (arith, front-below c.args.heap.now c.args.count c.requires d.word-index c.loop-word-test.true)))

pub loop-word-preserved : goal.loop-word-preserved
loop-word-preserved c =
    let d = c.loop-word in
    read_next _ d.word-index d.invariant (c.read-tally.ensures ∙ ap (with_read d.tally) (front-word _ _ c.requires d.word-index c.loop-word-test.true))

pub returns : goal.returns
returns c =
    let d = c.loop-word in
    d.invariant ∙ ap (read_tally _) (front-end _ _ c.requires d.word-index d.auto.word-index-end c.loop-word-test.false)
