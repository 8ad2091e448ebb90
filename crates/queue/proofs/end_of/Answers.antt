-- `end_of` meets its contract, by the word's extent at each tag. Assumes nothing.
use Prim.Native.Nat.{ℕ}
use mathlib.Core.Path.{ap}
use native.Mathlib.Omega.{arith}
use lib.ListN.{get_or}
use Rattle.cell.proofs.Words.{extent-heap-var, extent-stack-var, extent-struct, extent-list, extent-const}
use Rattle.queue.proofs.end_of.Goals as goal

pub returns-in-Var : goal.returns-in-Var
returns-in-Var c = let a = c.args in omega (arith, extent-heap-var a.heap.now a.word (omega (arith, c.in-Var.ensures)) (omega arith))

pub returns-in-Var-2 : goal.returns-in-Var-2
returns-in-Var-2 c = let a = c.args in omega (arith, extent-stack-var a.heap.now a.word (omega (arith, c.in-Var.ensures)) (omega arith))

pub returns-in-Struct : goal.returns-in-Struct
returns-in-Struct c =
    let a = c.args in
    let functor = ap (λ (v : ℕ). get_or a.heap.now v 0) c.value-v.ensures in
    omega (arith, extent-struct a.heap.now a.word (omega (arith, c.in-Struct.ensures)))

pub returns-in-List : goal.returns-in-List
returns-in-List c = let a = c.args in omega (arith, extent-list a.heap.now a.word (omega (arith, c.in-List.ensures)))

pub returns-in-Const : goal.returns-in-Const
returns-in-Const c = let a = c.args in omega (arith, extent-const a.heap.now a.word (omega (arith, c.in-Const.ensures)))
