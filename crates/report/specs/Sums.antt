-- What the closing lines of a report add up to. Document 02, order 1. Assumes nothing.
use Rattle.std.specs.Prelude.{ℕ, ◌+◌, ◌<◌, ◌≡◌, Ok, List, [], ◌∷◌, ◌++◌, map, length, get_or, eqb}
use Rattle.cell.specs.Word.{pick}
use Rattle.machine.specs.Layout.{Image}
use Rattle.freeze.specs.declared.AreaCounts.{AreaCounts}
use Rattle.tally.specs.declared.Tally.{Tally}
use Rattle.tally.specs.Figures.{Figure, figure, tally_of}
use Rattle.tally.specs.Totals.{adds, deepest_of_file, sum, largest}
use Rattle.report.specs.declared.Month.{Month}
use Rattle.report.specs.Text.{closing}
use Rattle.report.specs.Most.{numbers}
use Rattle.report.specs.First.{image_of_file}
use Rattle.report.specs.Reports.{goes_on, Steps, refused_image, counted, Reports, last, more, begun}

module _ {room : AreaCounts} {work : ℕ} where
  -- the figures of a file that is accepted, in front of those of the files after it
  unfoldable pub add_figures : {month : Month} {file : List ℕ} {month' : Month} {text : List ℕ} {left : Image} → Steps room work month file (goes_on text month' left) → List Tally → List Tally
  add_figures (refused_image number place opened whole v) later = later
  add_figures {file = file} (counted Y opened whole v to) later = tally_of to.cells to.entries (image_of_file file) ∷ later

  -- the number of a file that is refused, in front of those of the files after it
  unfoldable pub add_number : {month : Month} {file : List ℕ} {month' : Month} {text : List ℕ} {left : Image} → Steps room work month file (goes_on text month' left) → List ℕ → List ℕ
  add_number (refused_image number place opened whole v) later = number ∷ later
  add_number (counted Y opened whole v to) later = later

  -- of all files of a report, in their order
  unfoldable pub figures_in : {month : Month} {rest text : List ℕ} → Reports room work month rest text → List Tally
  figures_in (last step) = []
  figures_in (more step later) = add_figures step (figures_in later)

  unfoldable pub numbers_in : {month : Month} {rest text : List ℕ} → Reports room work month rest text → List ℕ
  numbers_in (last step) = []
  numbers_in (more step later) = add_number step (numbers_in later)

  -- the month at the end
  unfoldable pub last_month : {month : Month} {rest text : List ℕ} → Reports room work month rest text → Month
  last_month {month} (last step) = month
  last_month (more step later) = last_month later

-- how often a number is in a list
unfoldable pub times : ℕ → List ℕ → ℕ
times n [] = 0
times n (m ∷ ms) = pick (eqb m n) 1 0 + times n ms

-- a text that ends with the closing lines of a month, and one line more
pub record Closed (month : Month) (text : List ℕ) : Type 0 where
  pub lines : List ℕ
  pub end : List ℕ
  pub is : text ≡ lines ++ (closing month ++ end)

-- "a total is the sum over the accepted files .. the deepest chain (in frames) of all is the largest"; "A refused image counts under its
-- number and adds nothing else."
pub record Summed {room : AreaCounts} {work : ℕ} {rest text : List ℕ} (r : Reports room work begun rest text) : Type 0 where
  pub closed : Closed (last_month r) text
  pub sums : (f : Figure) → figure f (last_month r).total ≡ sum (adds f) (map Ok (figures_in r))
  pub deepest : (last_month r).total.deepest ≡ largest deepest_of_file (map Ok (figures_in r))
  pub accepted : (last_month r).accepted ≡ length (figures_in r)
  pub refused : (number : ℕ) → number < numbers → get_or (last_month r).refused number 0 ≡ times number (numbers_in r)

abbrev pub EndIsSum : Type 0
EndIsSum = (room : AreaCounts) (work : ℕ) (rest text : List ℕ) (r : Reports room work begun rest text) → Summed r
