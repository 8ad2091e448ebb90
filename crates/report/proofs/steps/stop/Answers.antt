-- `report::steps::stop` meets its contract: the closing lines and the line of the fault, at its offset from where the rest starts.
-- Assumes nothing.
use Rattle.report.proofs.Months.{offset-fits}
use Rattle.text.proofs.Puttings.{short-join}
use mathlib.Core.Path.{refl, sym}
use Rattle.report.proofs.steps.stop.Goals as goal

pub overflow_add-offset : goal.overflow_add-offset
overflow_add-offset c = record { fits = offset-fits c.requires.possible c.fault-fault.result.offset (c.requires.near _ _ (sym c.fault-fault.ensures)) }

pub returns : goal.returns
returns c =
    record {
      number = c.fault-fault.result.number;
      offset = c.fault-fault.result.offset;
      verdict-is = sym c.fault-fault.ensures;
      answer = record {
        goes = refl;
        puts = short-join c.put_closing-fault_at.ensures c.put_file.ensures;
      };
    }
