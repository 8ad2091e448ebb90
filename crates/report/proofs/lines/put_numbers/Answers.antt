use Rattle.text.proofs.Puttings.{short-within}
use lib.ListN.{length}
use mathlib.Core.Path.{◌≡◌}
use Rattle.report.proofs.Numberings.{numbering-none, numbering-more, numbering-ends}
use Rattle.report.specs.Most.{numbers}
use borrow.Author.Rules.{rules}
use native.Mathlib.Omega.{arith}
use Rattle.report.proofs.lines.put_numbers.Goals as goal

pub loop-number-init : goal.loop-number-init
loop-number-init c = numbering-none _ _ _

pub loop-number-preserved : goal.loop-number-preserved
loop-number-preserved c =
    let long : length c.args.month.refused ≡ numbers = search rules in
    numbering-more _ c.loop-number.invariant (omega arith) c.put_number-at.ensures

pub returns : goal.returns
returns c =
    let long : length c.args.month.refused ≡ numbers = search rules in
    short-within (omega arith) (numbering-ends _ c.loop-number.invariant (omega arith))
