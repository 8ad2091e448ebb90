-- `report::steps::refuse` meets its contract: the line of the refusal, which counts under its number.
-- Assumes nothing.
use Rattle.report.proofs.Months.{number_counts}
use Rattle.report.specs.Text.{refused_file}
use Rattle.machine.specs.Lent.{where_in}
use Rattle.text.proofs.Puttings.{short-within, short-of}
use native.Mathlib.Omega.{arith}
use mathlib.Core.Path.{sym}
use Rattle.report.proofs.steps.refuse.Goals as goal

pub with_refused-requires : goal.with_refused-requires
with_refused-requires c =
    record {
      possible = c.requires.possible;
      used_le_file_most = (c.requires.used_le_file_most, number_counts c.args.refusal _ _ c.reason.ensures);
    }

pub returns : goal.returns
returns c =
    record {
      number = c.reason.result.number;
      place = where_in c.reason.result.place;
      verdict-is = sym c.reason.ensures;
      answer = record {
        goes = rw c.with_refused.ensures;
        puts = short-within (omega arith) (short-of (refused_file _) c.reason.ensures c.put_refused.ensures);
      };
    }
