-- The refusals of the file parts: the paper's number and offset for each case of the enum, and which of several checks speaks.
-- Document 01, 'Freeze file'. Assumes nothing.
use Rattle.std.specs.Prelude.{ℕ, Bool, true, false, List, [], ◌∷◌}
use Rattle.freeze.specs.declared.Fault.{Fault}
use Rattle.freeze.specs.declared.FileRefusal.{FileRefusal}
use Rattle.freeze.specs.declared.FileRefusal.TheVariants.{Sizes, Registers, Cut, Kind, Room, After, Differ, Output}

-- accepted, or a number and an offset
pub data FileVerdict : Type 0 where
  accepted : FileVerdict
  refused : (number offset : ℕ) → FileVerdict

-- "1 (lent sizes, no work needed; offset 0); 10 file ends early (offset of the cut record, or the file's length if none has begun);
-- 11 another kind than the expected one (offset of that record ..); 12 a count above the lent room (offset 0); 13 bytes after the end
-- (offset of the first); 14 counts that differ from the control words .. (offset 0)"; "The writer refuses 1 (likewise), 2, then 15
-- when the output is too short": its offsets, which the paper does not name, are 0
unfoldable pub verdict_of : FileRefusal → FileVerdict
verdict_of Sizes = refused 1 0
verdict_of Registers = refused 2 0
verdict_of (Cut at) = refused 10 at
verdict_of (Kind at) = refused 11 at
verdict_of Room = refused 12 0
verdict_of (After at) = refused 13 at
verdict_of Differ = refused 14 0
verdict_of Output = refused 15 0

-- the verdict that a number with its offset is of
abbrev pub fault_verdict : Fault → FileVerdict
fault_verdict f = refused f.number f.offset

-- a check that passes or refuses
abbrev pub gate : Bool → FileVerdict → FileVerdict
gate true refusal = accepted
gate false refusal = refusal

unfoldable pub or_else : FileVerdict → FileVerdict → FileVerdict
or_else accepted later = later
or_else (refused number offset) later = refused number offset

-- "as found from the front"
unfoldable pub first_of : List FileVerdict → FileVerdict
first_of [] = accepted
first_of (v ∷ vs) = let later = first_of vs in or_else v later

-- what an accepted file gives, and what a refused one leaves
unfoldable pub if_accepted : {A : Type 0} → FileVerdict → A → A → A
if_accepted accepted a b = a
if_accepted (refused number offset) a b = b
