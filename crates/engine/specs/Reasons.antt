-- A verdict as numbers: 0 is accepted, and what a verdict does not have is 0. Document 01, 'Refusal numbers and the order of checks'.
-- Assumes nothing.
use Rattle.std.specs.Prelude.{ℕ}
use Rattle.machine.specs.declared.Area.{Area}
use Rattle.machine.specs.declared.Area.TheVariants.{Heap, Stack, Control, Trail}
use Rattle.machine.specs.Refusals.{nowhere, in_area, Verdict, accepted, refused}
use Rattle.freeze.specs.Verdicts as file
use Rattle.engine.specs.declared.reasons.Reason.{Reason}
use Rattle.engine.specs.declared.reasons.FileReason.{FileReason}

-- "an area (heap, stack, control or trail)"; 0 is none
abbrev pub area_number : Area → ℕ
area_number Heap = 1
area_number Stack = 2
area_number Control = 3
area_number Trail = 4

abbrev pub reason_of : Verdict → Reason
reason_of accepted = record { number = 0; area = 0; index = 0 }
reason_of (refused number nowhere) = record { number = number; area = 0; index = 0 }
reason_of (refused number (in_area area index)) = record { number = number; area = area_number area; index = index }

abbrev pub file_reason_of : file.FileVerdict → FileReason
file_reason_of file.accepted = record { number = 0; offset = 0 }
file_reason_of (file.refused number offset) = record { number = number; offset = offset }
