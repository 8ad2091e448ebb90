use borrow.Author.Rules.{rules}
use Rattle.text.proofs.Puttings.{bytes-row, putting-more}
use Rattle.text.proofs.put_bytes.Goals as goal

pub loop-byte-preserved : goal.loop-byte-preserved
loop-byte-preserved c = search (rules, putting-more (λ bs. bs) bytes-row)
