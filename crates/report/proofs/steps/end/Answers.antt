-- `report::steps::end` meets its contract: the closing lines and the last one.
-- Assumes nothing.
use Rattle.text.proofs.Puttings.{short-exact, short-within, short-join}
use native.Mathlib.Omega.{arith}
use mathlib.Core.Path.{refl}
use Rattle.report.proofs.steps.end.Goals as goal

pub returns : goal.returns
returns c =
    record {
      goes = refl;
      puts = short-within (omega arith) (short-join c.put_closing-end_at.ensures (short-exact c.put_bytes.ensures));
    }
