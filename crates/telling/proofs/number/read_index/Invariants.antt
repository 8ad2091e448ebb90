-- `telling::number::read_index` meets its contract: the loop's invariant says what is left to read (`Reading`). Assumes nothing.
use Rattle.telling.proofs.Numbers.{Reading}
use Rattle.telling.proofs.number.read_index.Given as goal

abbrev pub invariant-loop-byte : goal.invariant-loop-byte
invariant-loop-byte l = Reading l.text l.n l.byte-index
