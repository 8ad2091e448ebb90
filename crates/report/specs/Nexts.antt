-- What `next` promises. Document 02, order 1. Assumes nothing.
use Rattle.std.specs.Prelude.{ℕ, ◌*◌, ◌≤◌, ◌≡◌, Option, Some, None, List, length, get_or}
use Rattle.machine.specs.Layout.{Image}
use Rattle.machine.specs.Answers.{work_after}
use Rattle.freeze.specs.Thaw.{filled}
use Rattle.tally.specs.Totals.{files_most, Within}
use Rattle.text.specs.Puts.{PutsShort}
use Rattle.report.specs.declared.Month.{Month}
use Rattle.report.specs.declared.GoesOn.{GoesOn}
use Rattle.report.specs.declared.Step.{Step}
use Rattle.report.specs.Most.{step_most}
use Rattle.report.specs.First.{room_of, first_file, file_most, image_of_file}
use Rattle.report.specs.Reports.{Outcome, closes, goes_on, Steps}

-- where the report goes on, the bytes of the file are used up, and the month has the file
abbrev pub next_of : List ℕ → Outcome → Option GoesOn
next_of file (closes text) = None
next_of file (goes_on text month left) = Some (record { used = length file; month = month })

abbrev pub text_of : Outcome → List ℕ
text_of (closes text) = text
text_of (goes_on text month left) = text

-- the image in the fronts of the areas, which stay from there on
abbrev pub areas_after : Image → Outcome → Image
areas_after lent (closes text) = lent
areas_after lent (goes_on text month left) = filled lent left

-- the work words as a collection of the file's image leaves them
abbrev pub work_of : List ℕ → List ℕ → Outcome → List ℕ
work_of file work (closes text) = work
work_of file work (goes_on text month left) = work_after (image_of_file file) work

-- the answer, and the text in the output from a place on
pub record Answers (next : Option GoesOn) (text output : List ℕ) (at : ℕ) (r : Step) (output' : List ℕ) : Type 0 where
  pub goes : r.next ≡ next
  pub puts : PutsShort step_most output at text r.at output'

-- What `next` promises, of all lent areas, every lent work, window and output: its answer r, and all that is lent at exit.
pub record Nexts (lent : Image) (work : List ℕ) (month : Month) (window output : List ℕ) (at : ℕ) (r : Step) (left : Image) (work' output' : List ℕ) : Type 0 where
  pub outcome : Outcome
  pub steps : Steps (room_of lent) (length work) month (first_file (room_of lent) window) outcome
  pub answer : Answers (next_of (first_file (room_of lent) window) outcome) (text_of outcome) output at r output'
  pub areas : left ≡ areas_after lent outcome
  pub work-is : work' ≡ work_of (first_file (room_of lent) window) work outcome

-- a month that no more than so many files led to: what keeps every sum within 64 bits
pub record Possible (month : Month) : Type 0 where
  pub files : month.files ≤ files_most
  pub accepted : month.accepted ≤ month.files
  pub start : month.start ≤ month.files * file_most
  pub total : Within month.files month.total
  pub refused : (number : ℕ) → get_or month.refused number 0 ≤ month.files
