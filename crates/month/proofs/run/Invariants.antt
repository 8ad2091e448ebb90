-- `month::run` is safe and ends: the month stays possible, the output has room for one step more, and each turn reads one file more.
-- Assumes nothing.
use Rattle.std.proofs.Common.{ℕ, ◌+◌, ◌≤◌, ◌≡◌, List, length}
use Rattle.report.specs.declared.Month.{Month}
use Rattle.report.specs.Most.{step_most}
use Rattle.report.specs.Nexts.{Possible}
use Rattle.report.proofs.Learnt.{files_left}
use Rattle.month.specs.declared.held.Held.{Held}
use Rattle.month.specs.Holding.{Holds}
use Rattle.month.proofs.run.Given as goal

-- the buffer holds a part of the input, the output has room for one step's text, and the month is possible
pub record Running (buffer output : List ℕ) (held : Held) (at : ℕ) (month : Month) : Type 0 where
  pub holds : Holds held buffer
  pub room : at + step_most ≤ length output
  pub possible : Possible month

abbrev pub invariant-loop-held : goal.invariant-loop-held
invariant-loop-held g l =
    Running l.buffer l.output l.held l.at l.month
    × (length l.buffer ≡ length l.initial.buffer)
    × (length l.output ≡ length l.initial.output)

-- how many files more can be read
abbrev pub decreases-loop-held : goal.decreases-loop-held
decreases-loop-held g l = files_left l.month
