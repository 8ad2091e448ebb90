-- `enter_word` meets its contract: what a word refers to is a range of cells. Assumes nothing.
use native.Mathlib.Omega.{arith}
use Rattle.cell.specs.Word.{value_of}
use Rattle.cell.proofs.Words.{extent-struct}
use Rattle.queue.proofs.enter_word.Goals as goal

pub end_of-requires : goal.end_of-requires
end_of-requires c =
    λ e.
    let x = extent-struct c.args.heap.now c.args.word e in
    omega (arith, c.requires.2 (value_of c.args.word) (omega arith))
