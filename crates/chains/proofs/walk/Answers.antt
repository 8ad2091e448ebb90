-- `chains::walk` meets its contract: both chains of the control area are walked, or one is broken, and so for each image that has the
-- view's control area and stack. Assumes nothing.
use Rattle.std.proofs.lemmas.Result.{err_from_is_err_and}
use Rattle.machine.specs.Layout.{field}
use Rattle.machine.specs.Lent.{seen}
use Rattle.chains.proofs.Ends.{walk-stopped, walk-finished}
use Rattle.chains.proofs.Same.{walks-any}
use Rattle.chains.proofs.walk.Goals as goal

pub returns-in_err-walk_frames : goal.returns-in_err-walk_frames
unfolding field
returns-in_err-walk_frames c =
    let p = err_from_is_err_and c.from_residual.result c.from_residual.ensures.1 in
    rw (p.1, p.2) (λ X e f. walks-any (seen c.args.view) X e f (walk-stopped (seen c.args.view) c.requires c.in_err-walk_frames.ensures))

pub returns : goal.returns
unfolding field
returns c = λ X e f. walks-any (seen c.args.view) X e f (walk-finished (seen c.args.view) c.requires c.in_ok-walk_frames.ensures c.walk_points.ensures)
