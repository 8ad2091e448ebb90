-- `tally::Tally::plus` meets its contract: each figure has room, and the four tags with them. Assumes nothing.
use native.Mathlib.Omega.{arith}
use Rattle.tally.specs.Figures.{kept, dropped, entries_kept, entries_dropped, choice_points}
use Rattle.tally.proofs.Tally.plus.Goals as goal

pub plus-requires : goal.plus-requires
plus-requires c = λ tag. c.requires (kept tag)

pub plus-requires-2 : goal.plus-requires-2
plus-requires-2 c = λ tag. c.requires (dropped tag)

pub overflow_add-result : goal.overflow_add-result
overflow_add-result c = omega (arith, c.requires entries_kept)

pub overflow_add-result-2 : goal.overflow_add-result-2
overflow_add-result-2 c = omega (arith, c.requires entries_dropped)

pub overflow_add-result-3 : goal.overflow_add-result-3
overflow_add-result-3 c = omega (arith, c.requires choice_points)
