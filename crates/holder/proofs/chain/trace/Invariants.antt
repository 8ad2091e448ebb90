-- `holder::chain::trace` meets its contract: before each turn the end of the chain is written. Assumes nothing.
use Prim.Native.Nat.{◌-◌}
use Rattle.holder.proofs.Tracing.{Tracing}
use Rattle.holder.proofs.chain.trace.Given as goal

abbrev pub invariant-loop-left : goal.invariant-loop-left
invariant-loop-left l = Tracing l.heap l.work l.j l.n l.initial.room l.room l.x l.level (l.left - 1)
