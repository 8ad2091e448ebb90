use Rattle.text.specs.Line.{numbers}
use Rattle.text.proofs.Puttings.{puts-as, numbers-row, numbers-one, putting-none, putting-more, putting-ends}
use Rattle.text.proofs.put_numbers.Goals as goal
use native.Mathlib.Omega.{arith}
use mathlib.Core.Path.{ap, ◌∙◌}
use lib.ListN.{take}
use Prim.Native.Nat.{ℕ}
use Rattle.std.proofs.lemmas.List.{take_min}

pub loop-word-init : goal.loop-word-init
loop-word-init c = putting-none numbers numbers-row _ _ _

pub loop-word-preserved : goal.loop-word-preserved
loop-word-preserved c = putting-more numbers numbers-row _ c.loop-word.invariant (omega arith) (puts-as (numbers-one _) c.put_spaced-at.ensures.puts)

pub returns : goal.returns
returns c =
    puts-as (ap (λ (n : ℕ). numbers (take n c.args.words.now)) c.min-end.ensures ∙ ap numbers (take_min c.args.count c.args.words.now))
    (putting-ends numbers numbers-row _ c.loop-word.invariant (omega arith))
