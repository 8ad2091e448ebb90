-- `telling::lines::put_numbered` meets its contract: three texts one after the other are one. Assumes nothing.
use native.Mathlib.Omega.{arith}
use Rattle.text.proofs.Puttings.{short-exact, short-within, short-join}
use Rattle.telling.proofs.lines.put_numbered.Goals as goal

pub returns : goal.returns
returns c =
    short-within (omega arith)
    (short-join (short-exact c.put_bytes-number_at.ensures) (short-join c.put_spaced-of_at.ensures (short-exact c.put_bytes.ensures)))
