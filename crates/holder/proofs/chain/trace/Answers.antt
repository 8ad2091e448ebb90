use Prim.Native.Nat.{ℕ, ◌-◌}
use mathlib.Core.Path.{sym, subst}
use native.Mathlib.Omega.{arith}
use lib.ListN.{set}
use Rattle.holder.proofs.Tracing.{Tracing, tracing-none, level-above, parent_there, tracing-more, tracing-end}
use Rattle.holder.proofs.chain.trace.Goals as goal

pub loop-left-init : goal.loop-left-init
loop-left-init c =
    subst (λ (x : ℕ). Tracing c.args.heap.now c.args.work.now c.args.j c.args.n c.args.room.now c.args.room.now x c.level_of-level.result (c.args.n - 1))
    (sym c.entry-x.ensures)
    (tracing-none c.args.room.now c.level_of-level.ensures c.requires.traceable.1)

pub overflow_sub-z : goal.overflow_sub-z
overflow_sub-z c = level-above c.loop-left.invariant c.requires.traceable.0 (omega arith)

pub unwrap-requires : goal.unwrap-requires
unwrap-requires c = parent_there c.loop-left.invariant c.requires.traceable.0 _ (omega arith) c.level_of-level-in-loop-left.ensures c.parent.ensures

pub loop-left-preserved : goal.loop-left-preserved
loop-left-preserved c =
    let a = c.args in
    subst (λ (x : ℕ). Tracing a.heap.now a.work.now a.j a.n a.room.now (set c.loop-left.room (c.loop-left.left - 1) c.loop-left.x) x c.level_of-level-in-loop-left.result (c.loop-left.left - 1 - 1))
    (sym c.entry-x-in-loop-left.ensures)
    (tracing-more c.loop-left.invariant c.requires.traceable.0 (omega arith) (omega (arith, c.requires.n_in_bounds)) c.level_of-level-in-loop-left.ensures (rw c.unwrap.ensures at c.parent.ensures))

pub returns : goal.returns
returns c = tracing-end c.loop-left.invariant c.requires.traceable.0 (omega arith) (omega (arith, c.loop-left.invariant.size, c.requires.n_in_bounds))
