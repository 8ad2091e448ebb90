-- `telling::lines::put_chain` meets its contract: the loop's invariant says that the lines of the cells so far are put (`Putting`). Assumes nothing.
use lib.ListN.{take}
use Rattle.text.proofs.Puttings.{Putting}
use Rattle.telling.specs.Text.{cell_lines}
use Rattle.telling.proofs.lines.put_chain.Given as goal

abbrev pub invariant-loop-x : goal.invariant-loop-x
invariant-loop-x l = Putting (cell_lines l.heap) (take l.count l.room) l.initial.output l.from l.output l.at l.x-index
