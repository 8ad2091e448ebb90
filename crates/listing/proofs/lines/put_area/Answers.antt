-- `listing::lines::put_area` meets its contract: the name of each area, by the cases.
-- Assumes nothing.
use mathlib.Core.List.{◌++◌}
use Rattle.machine.specs.declared.Area.{Area}
use Rattle.text.specs.Line.{ascii}
use Rattle.listing.specs.Text.{name_of}
use Rattle.text.proofs.Puttings.{puts_of}
use Rattle.listing.proofs.lines.put_area.Goals as goal

pub returns-in-Heap : goal.returns-in-Heap
returns-in-Heap c = puts_of (λ (a : Area). ascii " " ++ name_of a) c.in-Heap.is c.put_bytes.ensures

pub returns-in-Stack : goal.returns-in-Stack
returns-in-Stack c = puts_of (λ (a : Area). ascii " " ++ name_of a) c.in-Stack.is c.put_bytes-in-Stack.ensures

pub returns-in-Control : goal.returns-in-Control
returns-in-Control c = puts_of (λ (a : Area). ascii " " ++ name_of a) c.in-Control.is c.put_bytes-in-Control.ensures

pub returns-in-Trail : goal.returns-in-Trail
returns-in-Trail c = puts_of (λ (a : Area). ascii " " ++ name_of a) c.in-Trail.is c.put_bytes-in-Trail.ensures
