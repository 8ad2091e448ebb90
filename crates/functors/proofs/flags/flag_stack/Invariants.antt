-- `functors::flags::flag_stack` meets its contract: the first cells of the noted cells so far are flagged. Assumes nothing.
use lib.ListN.{length}
use Rattle.functors.specs.Functors.{stack_to, any_to, Flags}
use Rattle.functors.proofs.flags.flag_stack.Given as goal

abbrev pub invariant-loop-word : goal.invariant-loop-word
invariant-loop-word l = Flags (any_to (stack_to l.stack l.notes 0) (length l.yielded)) l.initial.work l.work l.met (length l.yielded)
