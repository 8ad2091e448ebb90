-- The report of a whole input, file by file. Document 02, order 1. Assumes nothing.
use Rattle.std.specs.Prelude.{ℕ, ◌+◌, ◌≤◌, ◌<◌, ◌≡◌, List, [], ◌++◌, length, get_or, drop, set, replicate}
use Rattle.machine.specs.Layout.{Image}
use Rattle.machine.specs.Refusals.{Where, accepted, refused, verdict}
use Rattle.machine.specs.Moved.{CollectedTo}
use Rattle.freeze.specs.declared.AreaCounts.{AreaCounts}
use Rattle.freeze.specs.Verdicts as files
use Rattle.freeze.specs.Thaw.{thaw_verdict}
use Rattle.listing.specs.Text.{file_text}
use Rattle.tally.specs.declared.Tally.{Tally}
use Rattle.tally.specs.Figures.{tally_of}
use Rattle.tally.specs.Totals.{empty, plus, files_most}
use Rattle.text.specs.Line.{ascii}
use Rattle.report.specs.declared.Month.{Month}
use Rattle.report.specs.Text.{counted_file, refused_file, closing}
use Rattle.report.specs.Most.{numbers}
use Rattle.report.specs.First.{areas_of, first_file, image_of_file}

-- before the first file
abbrev pub begun : Month
begun = record { files = 0; accepted = 0; start = 0; total = empty; refused = replicate numbers 0 }

-- after one file more, of so many bytes, which was accepted
unfoldable pub with_figures : ℕ → Tally → Month → Month
with_figures used figures month = record {
  files = month.files + 1;
  accepted = month.accepted + 1;
  start = month.start + used;
  total = plus month.total figures;
  refused = month.refused;
}

-- "A refused image counts under its number and adds nothing else."
unfoldable pub with_refused : ℕ → ℕ → Month → Month
with_refused used number month = record {
  files = month.files + 1;
  accepted = month.accepted;
  start = month.start + used;
  total = month.total;
  refused = set month.refused number (get_or month.refused number 0 + 1);
}

-- what one file leads to: the report is closed; or a line is put, the month goes on, and this image is left in the fronts of the areas
pub data Outcome : Type 0 where
  closes : (text : List ℕ) → Outcome
  goes_on : (text : List ℕ) (month : Month) (left : Image) → Outcome

-- "up to 65,535 of them": there is one more file, and it may be read
pub record Opened (month : Month) (file : List ℕ) : Type 0 where
  pub some : 0 < length file
  pub room : month.files < files_most

-- The file at the front of what is left of the input. `room` is the areas' and `work` the number of work words.
pub data Steps (room : AreaCounts) (work : ℕ) (month : Month) (file : List ℕ) : Outcome → Type 0 where
  -- "input that stops between files, or is empty, is no fault"
  ended : file ≡ [] → Steps room work month file (closes (closing month ++ ascii "end\n"))
  -- "13 is only for bytes after file 65,535"
  too_many : 0 < length file → files_most ≤ month.files → Steps room work month file (closes (closing month ++ file_text 13 month.start))
  -- "a bad file ends the report with its usual number and its offset in the whole input"
  bad_file : (number offset : ℕ) → Opened month file → thaw_verdict (areas_of room) file ≡ files.refused number offset
      → Steps room work month file (closes (closing month ++ file_text number (month.start + offset)))
  refused_image : (number : ℕ) (place : Where) → Opened month file → thaw_verdict (areas_of room) file ≡ files.accepted → verdict work (image_of_file file) ≡ refused number place
      → Steps room work month file (goes_on (refused_file (month.files + 1) (refused number place)) (with_refused (length file) number month) (image_of_file file))
  counted : (Y : Image) → Opened month file → thaw_verdict (areas_of room) file ≡ files.accepted → verdict work (image_of_file file) ≡ accepted → (to : CollectedTo (image_of_file file) Y)
      → Steps room work month file (goes_on
      (counted_file (month.files + 1) (tally_of to.cells to.entries (image_of_file file)))
      (with_figures (length file) (tally_of to.cells to.entries (image_of_file file)) month)
      Y)

-- "figures over a month of freeze files laid end to end": the text of a report over what is left of the input, after the month so far
pub data Reports (room : AreaCounts) (work : ℕ) : Month → List ℕ → List ℕ → Type 0 where
  last : {month : Month} {rest text : List ℕ} → Steps room work month (first_file room rest) (closes text) → Reports room work month rest text
  more : {month month' : Month} {rest text later : List ℕ} {left : Image} → Steps room work month (first_file room rest) (goes_on text month' left)
      → Reports room work month' (drop (length (first_file room rest)) rest) later → Reports room work month rest (text ++ later)
