-- `counts::moved_word` meets its contract: a constant and a stack address stay, and a heap value becomes the half of its count. Assumes
-- nothing.
use Prim.Native.Nat.{◌<◌}
use mathlib.Core.Path.{refl, sym, ◌∙◌}
use mathlib.Core.Logic.{◌≢◌}
use native.Mathlib.Omega.{arith}
use Rattle.cell.specs.Word.{CONST, tag_of}
use Rattle.cell.specs.Tags.{number_of}
use Rattle.cell.specs.declared.Tag.{Tag}
use Rattle.cell.specs.declared.Tag.TheVariants.{Var, Struct, List, Const}
use Rattle.machine.proofs.Words.{move-const, move-ref, move-high}
use Rattle.counts.proofs.Counting.{half}
use Rattle.counts.proofs.moved_word.Goals as goal

no-const : (t : Tag) → t ≢ Const → number_of t ≢ CONST
no-const Var n e = omega arith
no-const Struct n e = omega arith
no-const List n e = omega arith
no-const Const n e = n refl

pub returns-in-Const : goal.returns-in-Const
returns-in-Const c = λ cells k. sym (move-const _ _ (sym c.in-Const.ensures))

pub returns-in_default : goal.returns-in_default
returns-in_default c = λ cells k.
    let n : tag_of c.args.word ≢ CONST = λ e. no-const _ c.in_default.not-Const (c.of.ensures ∙ e) in
    let low : c.value-v.result < c.args.top = omega (arith, c.requires.1 n (omega arith)) in
    rw (move-ref _ _ n (omega arith), sym c.value-v.ensures) (omega (arith, half k c.value-v.result low))

pub returns-in_default-2 : goal.returns-in_default-2
returns-in_default-2 c = λ cells k. sym (move-high _ _ (omega arith))
