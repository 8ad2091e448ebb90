-- `freeze::writing::put_word` meets its contract: what was copied is the run of the word's four bytes.
-- Assumes nothing.
use mathlib.Core.Path.{◌∙◌}
use native.Mathlib.Omega.{arith}
use Rattle.freeze.specs.Freeze.{bytes_of}
use Rattle.freeze.proofs.WriteLaws.{writes-copied}
use Rattle.freeze.proofs.writing.put_word.Goals as goal

pub returns : goal.returns
returns c = writes-copied _ _ _ (bytes_of c.args.word) _ (c.copy_from_slice.ensures.after ∙ c.to_le_bytes.ensures) (omega arith) (omega arith)
