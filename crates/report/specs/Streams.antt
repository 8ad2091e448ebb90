-- What the steps of a caller come to that lends one window of the input after the other. Document 02, order 1. Assumes nothing.
use Rattle.std.specs.Prelude.{ℕ, ◌≤◌, ◌≡◌, ◌⊎◌, List, ◌++◌, length, take, drop}
use Rattle.machine.specs.Layout.{Image}
use Rattle.freeze.specs.declared.AreaCounts.{AreaCounts}
use Rattle.report.specs.declared.Month.{Month}
use Rattle.report.specs.First.{room_of, first_file, file_most}
use Rattle.report.specs.Reports.{closes, goes_on, Steps, Reports}

-- the front of what is left of the input: as much as the longest file has at least, or all of it
pub record Window (rest window : List ℕ) : Type 0 where
  pub width : ℕ
  pub begins : window ≡ take width rest
  pub enough : (file_most ≤ width) ⊎ (length rest ≤ width)

-- steps over windows, and their texts one after the other
pub data Streams (room : AreaCounts) (work : ℕ) : Month → List ℕ → List ℕ → Type 0 where
  last : {month : Month} {rest window text : List ℕ} → Window rest window → Steps room work month (first_file room window) (closes text) → Streams room work month rest text
  more : {month month' : Month} {rest window text later : List ℕ} {left : Image} → Window rest window → Steps room work month (first_file room window) (goes_on text month' left)
      → Streams room work month' (drop (length (first_file room window)) rest) later → Streams room work month rest (text ++ later)

-- such a caller's text is the report of the whole input
abbrev pub StreamsReport : Type 0
StreamsReport = (lent : Image) (work : ℕ) (month : Month) (rest text : List ℕ) → Streams (room_of lent) work month rest text → Reports (room_of lent) work month rest text

-- and an input has one report
abbrev pub OneReport : Type 0
OneReport = (room : AreaCounts) (work : ℕ) (month : Month) (rest text text' : List ℕ) → Reports room work month rest text → Reports room work month rest text' → text ≡ text'
