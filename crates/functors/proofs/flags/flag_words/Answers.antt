use mathlib.Core.Path.{refl}
use native.Mathlib.Omega.{arith}
use Rattle.machine.proofs.FirstCells.{to-iff}
use Rattle.functors.specs.Functors.{heap_to}
use Rattle.functors.proofs.Flagging.{flags-none, flags-more}
use Rattle.functors.proofs.flags.flag_words.Goals as goal

pub loop-word-init : goal.loop-word-init
loop-word-init c = flags-none _ _

pub flag_word-met-requires : goal.flag_word-met-requires
unfolding heap_to
flag_word-met-requires c =
    λ e.
    let l = c.loop-word in
    omega (arith, c.requires.below l.word-index _ (omega arith) ((to-iff _ _).1 (record { struct = e; first = refl })), l.invariant.same)

pub loop-word-preserved : goal.loop-word-preserved
unfolding heap_to
loop-word-preserved c = flags-more (heap_to c.args.words.now) c.loop-word.invariant c.flag_word-met.ensures
