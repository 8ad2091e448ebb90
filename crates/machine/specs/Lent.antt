-- The image that lent areas hold, and the verdict that a reason is of. Assumes nothing.
use Rattle.std.specs.Prelude.{Option, Some, None}
use Rattle.machine.specs.declared.View.{View}
use Rattle.machine.specs.declared.Place.{Place}
use Rattle.machine.specs.declared.Reason.{Reason}
use Rattle.machine.specs.Layout.{Image}
use Rattle.machine.specs.Refusals.{Where, nowhere, Verdict, refused}
use Rattle.machine.specs.Answers.{place_in}

-- the four areas as they are read
abbrev pub seen : View → Image
seen v = record { control = v.control.now; stack = v.stack.now; heap = v.heap.now; trail = v.trail.now }

-- where a refusal that may name a place names one
abbrev pub where_in : Option Place → Where
where_in None = nowhere
where_in (Some place) = place_in place

abbrev pub reason_verdict : Reason → Verdict
reason_verdict r = refused r.number (where_in r.place)
