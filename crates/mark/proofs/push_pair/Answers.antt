-- `push_pair` meets its contract: a range of two cells, one pushed after the other. Assumes nothing.
use native.Mathlib.Omega.{arith}
use Rattle.mark.proofs.Stacks.{range-pair}
use Rattle.mark.proofs.push_pair.Goals as goal

pub returns : goal.returns
returns c = range-pair _ _ (omega arith) c.push-t.ensures c.push.ensures
