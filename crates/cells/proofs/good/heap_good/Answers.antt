-- `cells::good::heap_good` meets its contract: the second pass looks at what the first has left. Assumes nothing.
use native.Mathlib.Omega.{arith}
use Rattle.cells.proofs.Refers.{heap-clean}
use Rattle.cells.proofs.good.heap_good.Goals as goal

pub returns-then-values_good : goal.returns-then-values_good
returns-then-values_good c = λ e. heap-clean _ (omega arith) (c.values_good.ensures.0 c.if-values_good.true) (rw e at c.structures_good.ensures)
