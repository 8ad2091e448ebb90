-- `telling::lines::put_argument` meets its contract: the argument's number is counted from 1. Assumes nothing.
use Prim.Native.Nat.{◌+◌, ◌-◌}
use mathlib.Core.Path.{◌≡◌}
use native.Mathlib.Omega.{arith}
use Rattle.machine.specs.Layout.{fixed}
use Rattle.text.proofs.Puttings.{short-within}
use Rattle.telling.specs.Text.{argument_text}
use Rattle.telling.proofs.lines.put_argument.Goals as goal

pub returns : goal.returns
unfolding argument_text
returns c =
    let n : 1 + c.args.index - fixed ≡ c.args.index - fixed + 1 = omega arith in
    rw n (short-within (omega arith) c.put_numbered.ensures)
