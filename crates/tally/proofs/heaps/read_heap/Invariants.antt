-- `tally::heaps::read_heap` meets its contract: so far the tally is that of the cells before the next (`Tagged`). Assumes nothing.
use Rattle.std.proofs.Common.{◌≡◌}
use Rattle.tally.specs.Parts.{read_tally}
use Rattle.tally.proofs.heaps.read_heap.Given as goal

abbrev pub invariant-loop-word : goal.invariant-loop-word
invariant-loop-word l = l.tally ≡ read_tally l.heap l.word-index
