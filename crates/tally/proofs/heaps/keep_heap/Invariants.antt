-- `tally::heaps::keep_heap` meets its contract: so far the cells before the next are kept (`Tagged`). Assumes nothing.
use Rattle.std.proofs.Common.{◌≡◌}
use Rattle.tally.specs.Parts.{kept_tally}
use Rattle.tally.proofs.heaps.keep_heap.Given as goal

abbrev pub invariant-loop-word : goal.invariant-loop-word
invariant-loop-word l = l.tally ≡ kept_tally l.initial.tally l.heap l.word-index
