-- `holder::chain::depth` meets its contract: the words at which a level begins are counted (`Levels`). Assumes nothing.
use Rattle.std.proofs.Common.{◌≡◌, ◌∙◌, rules, count_by, eqb, take, suc}
use native.Mathlib.Omega.{arith}
use Rattle.queue.specs.Filled.{level_bit}
use Rattle.holder.proofs.Levels.{levels-counted}
use Rattle.holder.proofs.chain.depth.Goals as goal

pub returns : goal.returns
returns c =
    let h : c.count.result ≡ count_by (λ w. eqb (level_bit w) 1) (take (suc c.args.j) c.args.work.now) = search rules in
    h ∙ levels-counted c.args.work.now (suc c.args.j) (omega arith)
