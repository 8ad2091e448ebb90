-- `telling::lines::put_root` meets its contract: three texts one after the other are one.
-- Assumes nothing.
use native.Mathlib.Omega.{arith}
use Rattle.text.proofs.Puttings.{short-exact, short-within, short-join}
use Rattle.telling.specs.Text.{root_line}
use Rattle.telling.proofs.lines.put_root.Goals as goal

pub returns-clause-puts_short : goal.returns-clause-puts_short
unfolding root_line
returns-clause-puts_short c = short-within (omega arith) (short-join (short-exact c.put_bytes-kind_at.ensures) (short-join c.put_kind-site_at.ensures.puts_short c.put_site.ensures))
