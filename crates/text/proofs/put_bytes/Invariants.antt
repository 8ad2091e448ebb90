-- `text::put_bytes` meets its contract: the loop's invariant says that the bytes so far are put (`Putting`). Assumes nothing.
use Rattle.text.proofs.Puttings.{Putting}
use Rattle.text.proofs.put_bytes.Given as goal

abbrev pub invariant-loop-byte : goal.invariant-loop-byte
invariant-loop-byte l = Putting (λ bs. bs) l.bytes l.initial.output l.from l.output l.at l.byte-index
