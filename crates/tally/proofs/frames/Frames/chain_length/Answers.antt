use native.Mathlib.Omega.{arith}
use Rattle.std.proofs.Common.{rules}
use Rattle.tally.proofs.Chains.{passed-inside, passed-more, passed-word, chain-word}
use Rattle.tally.proofs.frames.Frames.chain_length.Goals as goal

pub overflow_add-result : goal.overflow_add-result
overflow_add-result c =
    let i = c.loop-e.invariant in
    omega (arith, chain-word i.1 (i.2.back _ (c.args.self.now.memo.noted c.loop-e.e (omega (arith, passed-inside i.2 c.loop-e-test.true)) (omega arith))))

pub overflow_add-n : goal.overflow_add-n
overflow_add-n c = omega (arith, passed-word c.loop-e.invariant.2 c.loop-e-test.true c.loop-e.invariant.1)

pub loop-e-preserved : goal.loop-e-preserved
loop-e-preserved c =
    (search rules, omega arith, passed-more c.loop-e.invariant.2 c.loop-e-test.true)
