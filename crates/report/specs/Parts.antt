-- What the inner functions of the report promise one another. No public promise cites this page. Assumes nothing.
use Rattle.std.specs.Prelude.{ℕ, ◌+◌, ◌≤◌, ◌≡◌, Some, None, Ok, Err, List, ◌++◌, length}
use Rattle.machine.specs.declared.Refusal.{Refusal}
use Rattle.machine.specs.Layout.{Image}
use Rattle.machine.specs.Refusals.{Where, accepted, refused, verdict}
use Rattle.machine.specs.Moved.{CollectedTo}
use Rattle.machine.specs.Answers.{verdict_of, work_after}
use Rattle.freeze.specs.declared.AreaCounts.{AreaCounts}
use Rattle.freeze.specs.declared.FileRefusal.{FileRefusal}
use Rattle.freeze.specs.Verdicts as files
use Rattle.freeze.specs.Thaw.{lengths_of, counts_in, filled, thaw_verdict}
use Rattle.tally.specs.declared.Uncounted.TheVariants as uncounted
use Rattle.tally.specs.Figures.{tally_of}
use Rattle.tally.specs.Totals.{Within}
use Rattle.tally.specs.Counts.{Counted}
use Rattle.listing.specs.Text.{file_text}
use Rattle.report.specs.declared.Month.{Month}
use Rattle.report.specs.declared.Step.{Step}
use Rattle.report.specs.Text.{refused_file, closing}
use Rattle.report.specs.First.{sizes, room_of, areas_of, file_most, image_of_file}
use Rattle.report.specs.Reports.{with_refused}
use Rattle.report.specs.Nexts.{Answers}

-- room within the sizes of a file
pub record Sized (room : AreaCounts) : Type 0 where
  pub control : room.control ≤ sizes.control
  pub stack : room.stack ≤ sizes.stack
  pub heap : room.heap ≤ sizes.heap
  pub trail : room.trail ≤ sizes.trail

-- as much of each area as a file is read into: it is refused as with all the room, and an accepted one fills it
pub record Fronts (room : AreaCounts) (file : List ℕ) (fronts : AreaCounts) : Type 0 where
  pub control : fronts.control ≤ room.control
  pub stack : fronts.stack ≤ room.stack
  pub heap : fronts.heap ≤ room.heap
  pub trail : fronts.trail ≤ room.trail
  pub same : (F : Image) → lengths_of F ≡ fronts → thaw_verdict F file ≡ thaw_verdict (areas_of room) file
  pub exact : thaw_verdict (areas_of room) file ≡ files.accepted → fronts ≡ counts_in file

-- what is counted of a file that is read into the fronts of the lent areas
pub data CountsFirst (file : List ℕ) (lent : Image) (work : List ℕ) : Counted → Image → List ℕ → Type 0 where
  bad_file : (refusal : FileRefusal) → thaw_verdict (areas_of (room_of lent)) file ≡ files.verdict_of refusal → CountsFirst file lent work (Err (uncounted.File refusal)) lent work
  refused_image : (refusal : Refusal) → thaw_verdict (areas_of (room_of lent)) file ≡ files.accepted → verdict (length work) (image_of_file file) ≡ verdict_of refusal
      → CountsFirst file lent work (Err (uncounted.Image refusal)) (filled lent (image_of_file file)) (work_after (image_of_file file) work)
  counted : (Y : Image) → thaw_verdict (areas_of (room_of lent)) file ≡ files.accepted → verdict (length work) (image_of_file file) ≡ accepted → (to : CollectedTo (image_of_file file) Y)
      → CountsFirst file lent work (Ok (tally_of to.cells to.entries (image_of_file file))) (filled lent Y) (work_after (image_of_file file) work)

-- figures are those of a file of no more than those sizes
abbrev pub Figured : Counted → Type 0
Figured (Ok figures) = Within 1 figures
Figured (Err why) = Unit {0}

-- a fault at an offset within a file
abbrev pub Near : FileRefusal → Type 0
Near refusal = (number offset : ℕ) → files.verdict_of refusal ≡ files.refused number offset → offset ≤ file_most

-- the closing lines and the line of a fault, whose offset is counted from where the rest starts
pub record Stops (month : Month) (refusal : FileRefusal) (output : List ℕ) (at : ℕ) (r : Step) (output' : List ℕ) : Type 0 where
  pub number : ℕ
  pub offset : ℕ
  pub verdict-is : files.verdict_of refusal ≡ files.refused number offset
  pub answer : Answers None (closing month ++ file_text number (month.start + offset)) output at r output'

-- the line of a refused image, which counts under its number
pub record Refuses (month : Month) (used : ℕ) (refusal : Refusal) (output : List ℕ) (at : ℕ) (r : Step) (output' : List ℕ) : Type 0 where
  pub number : ℕ
  pub place : Where
  pub verdict-is : verdict_of refusal ≡ refused number place
  pub answer : Answers (Some (record { used = used; month = with_refused used number month })) (refused_file (month.files + 1) (refused number place)) output at r output'
