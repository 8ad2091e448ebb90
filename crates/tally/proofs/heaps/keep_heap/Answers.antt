use Rattle.std.proofs.Common.{sym, ap, ◌∙◌}
use Rattle.tally.specs.Parts.{kept_tally}
use Rattle.tally.specs.Totals.{with_kept}
use Rattle.tally.proofs.Tagged.{front-below, front-word, front-end, keep-none, keep-next, keep-room, keep_one}
use Rattle.tally.proofs.heaps.keep_heap.Goals as goal

pub loop-word-init : goal.loop-word-init
loop-word-init c = sym (keep-none _ _)

pub keep-tally-requires : goal.keep-tally-requires
keep-tally-requires c =
    let d = c.loop-word in
    let k = c.requires.keepable in
    let l = front-below _ _ c.requires.count_in_bounds d.word-index c.loop-word-test.true in
    let word = front-word _ _ c.requires.count_in_bounds d.word-index c.loop-word-test.true in
    record { room = λ tag. rw d.invariant (keep-room _ _ _ k d.word-index l tag); tag_bound = λ tag. rw (d.invariant, word) (keep_one _ _ _ k d.word-index l tag) }

pub loop-word-preserved : goal.loop-word-preserved
loop-word-preserved c =
    let d = c.loop-word in
    keep-next _ _ d.word-index d.invariant (c.keep-tally.ensures ∙ ap (with_kept d.tally) (front-word _ _ c.requires.count_in_bounds d.word-index c.loop-word-test.true))

pub returns : goal.returns
returns c =
    let d = c.loop-word in
    d.invariant ∙ ap (kept_tally _ _) (front-end _ _ c.requires.count_in_bounds d.word-index d.auto.word-index-end c.loop-word-test.false)
