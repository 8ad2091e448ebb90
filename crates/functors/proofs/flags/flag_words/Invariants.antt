-- `functors::flags::flag_words` meets its contract: the first cells of the words before this one are flagged. Assumes nothing.
use Rattle.functors.specs.Functors.{heap_to, any_to, Flags}
use Rattle.functors.proofs.flags.flag_words.Given as goal

abbrev pub invariant-loop-word : goal.invariant-loop-word
invariant-loop-word l = Flags (any_to (heap_to l.words) l.word-index) l.initial.work l.work l.met l.word-index
