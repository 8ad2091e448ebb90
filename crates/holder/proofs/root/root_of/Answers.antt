-- `holder::root::root_of` meets its contract: the saved arguments come first, and the stack where none of them refers to x. Assumes nothing.
use Rattle.holder.specs.Tracing.{in_control, on_stack}
use Rattle.holder.proofs.root.root_of.Goals as goal

pub returns-in-Some : goal.returns-in-Some
returns-in-Some c = in_control (rw c.in-Some.is at c.first_argument.ensures)

pub returns : goal.returns
returns c = rw c.unwrap_or-index.ensures (on_stack _ (rw c.in_default.is at c.first_argument.ensures) c.first_cell.ensures)
