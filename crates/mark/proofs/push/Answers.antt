-- `push` meets its contract: a marked cell stays as it is, a constant is marked, and any other unmarked cell is linked in. Assumes nothing.
use native.Mathlib.Omega.{arith}
use lib.ListN.{get_or}
use Rattle.cell.proofs.Words.{const-refers-nothing}
use Rattle.mark.proofs.Stacks.{pushed-old, pushed-leaf, pushed-new}
use Rattle.mark.proofs.push.Goals as goal

pub returns-then-marks-x-ne0 : goal.returns-then-marks-x-ne0
returns-then-marks-x-ne0 c = pushed-old _ _ _ (omega arith)

pub returns-in-Const : goal.returns-in-Const
returns-in-Const c =
    let a = c.args in
    pushed-leaf _ _ _ (omega arith) (omega arith) (const-refers-nothing _ (get_or a.heap.now a.x 0) (omega (arith, c.in-Const.ensures)))

pub returns-in_default : goal.returns-in_default
returns-in_default c = pushed-new _ _ _ (omega arith) (omega arith)
