-- `text::put_number` meets its contract: the digits of the tenth and the last digit are the digits of the number. Assumes nothing.
use mathlib.Core.Path.{sym}
use native.Mathlib.Omega.{arith}
use Rattle.text.proofs.Decimals.{decimal-one, decimal-more}
use Rattle.text.proofs.Puttings.{puts-join, puts-as}
use Rattle.text.proofs.+put_number.Goals as goal

pub returns-then-n-lt-BASE : goal.returns-then-n-lt-BASE
returns-then-n-lt-BASE t c = puts-as (sym (decimal-one c.args.n (omega arith))) c.put_byte.ensures

pub returns : goal.returns
returns t c =
    puts-as (sym (decimal-more c.args.n (omega arith)))
    (puts-join c.put_number-next.ensures c.put_byte-2.ensures)
