-- `freeze::reading::check_areas` meets its contract: the four checks are four stages one after the other, each from where the one before it ended.
-- Assumes nothing.
use Rattle.freeze.specs.Kinds.{CONTROL, STACK, HEAP, TRAIL}
use Rattle.freeze.proofs.VerdictLaws.{first-refuses, first_passes}
use Rattle.freeze.proofs.Checking.{check-from, good-from, refused-from, stage-passed, stage-last, exit-refused}
use Rattle.freeze.proofs.reading.check_areas.Goals as goal
use mathlib.Core.Path.{◌∙◌}

pub returns-in_err-stack : goal.returns-in_err-stack
returns-in_err-stack c =
    exit-refused _ _ _ c.from_residual.ensures.1 (first-refuses _ _ (refused-from _ CONTROL _ c.requires _ c.in_err-stack.ensures))

pub returns-in_err-heap : goal.returns-in_err-heap
returns-in_err-heap c =
    let control = good-from _ CONTROL _ c.requires c.in_ok-stack.ensures in
    exit-refused _ _ _ c.from_residual-in_err-heap.ensures.1 (first_passes _ control.0 ∙ first-refuses _ _ (refused-from _ STACK _ control.1 _ c.in_err-heap.ensures))

pub returns-in_err-trail : goal.returns-in_err-trail
returns-in_err-trail c =
    let control = good-from _ CONTROL _ c.requires c.in_ok-stack.ensures in
    let stack = good-from _ STACK _ control.1 c.in_ok-heap.ensures in
    exit-refused _ _ _ c.from_residual-in_err-trail.ensures.1
    (first_passes _ control.0 ∙ first_passes _ stack.0 ∙ first-refuses _ _ (refused-from _ HEAP _ stack.1 _ c.in_err-trail.ensures))

pub returns : goal.returns
returns c =
    let control = good-from _ CONTROL _ c.requires c.in_ok-stack.ensures in
    let stack = good-from _ STACK _ control.1 c.in_ok-heap.ensures in
    let heap = good-from _ HEAP _ stack.1 c.in_ok-trail.ensures in
    stage-passed _ _ _ control.0 (stage-passed _ _ _ stack.0 (stage-passed _ _ _ heap.0 (stage-last _ _ _ (check-from _ TRAIL _ heap.1 _ c.check-4.ensures))))
