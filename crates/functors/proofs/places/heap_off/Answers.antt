-- `functors::places::heap_off` meets its contract: each word was tested. Assumes nothing.
use Rattle.std.proofs.Common.{rules}
use Rattle.functors.proofs.Seeking.{serves-words}
use Rattle.functors.proofs.places.heap_off.Goals as goal

pub all-requires-clause-callable : goal.all-requires-clause-callable
all-requires-clause-callable c = serves-words c.args.cells.now (cc) (λ q x t k. search rules) (λ x i l e. let w = c.requires.1 i l in search rules)
