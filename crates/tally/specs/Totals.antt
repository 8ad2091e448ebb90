-- Tallies that run on: one cell read, one cell kept, two tallies added; what the totals of a month are, and that they are exact.
-- Document 02, order 1. Assumes nothing.
use Rattle.std.specs.Prelude.{ℕ, ◌+◌, ◌-◌, ◌*◌, ◌^◌, max, ◌≤◌, ◌<◌, ◌≡◌, Ok, Err, Bool, List, [], ◌∷◌, length}
use Rattle.cell.specs.Word.{pick}
use Rattle.machine.specs.Layout.{Image, H, reg}
use Rattle.machine.specs.Moved.{CollectedTo}
use Rattle.machine.specs.Answers.{counted}
use Rattle.machine.proofs.Lists.{In}
use Rattle.tally.specs.declared.Tags.{Tags}
use Rattle.tally.specs.declared.Tally.{Tally}
use Rattle.tally.specs.Figures.{Tag, var, structure, list, constant, of_tag, tags_by, Figure, kept, dropped, figure, tally_by, has_tag, tally_of}
use Rattle.tally.specs.Counts.{Counted, CountsFile}

abbrev pub empty : Tally
empty = tally_by (λ f. 0) 0

-- 1 for the tag of a word, 0 for each other
abbrev pub hit : ℕ → Tag → ℕ
hit word tag = pick (has_tag tag word) 1 0

-- "A running tally takes one cell at a time and yields the next tally": a cell that is read counts as dropped until it is kept
abbrev pub with_read : Tally → ℕ → Tally
with_read tally word = record {
  kept = tally.kept;
  dropped = tags_by (λ tag. of_tag tag tally.dropped + hit word tag);
  entries_kept = tally.entries_kept;
  entries_dropped = tally.entries_dropped;
  points = tally.points;
  deepest = tally.deepest;
}

-- a cell that is kept counts so under its tag, and no more as dropped
abbrev pub with_kept : Tally → ℕ → Tally
with_kept tally word = record {
  kept = tags_by (λ tag. of_tag tag tally.kept + hit word tag);
  dropped = tags_by (λ tag. of_tag tag tally.dropped - hit word tag);
  entries_kept = tally.entries_kept;
  entries_dropped = tally.entries_dropped;
  points = tally.points;
  deepest = tally.deepest;
}

-- the counted figures of two tallies added; "the deepest chain (in frames) of all is the largest"
abbrev pub plus : Tally → Tally → Tally
plus a b = tally_by (λ f. figure f a + figure f b) (max a.deepest b.deepest)

-- the tally so far and one file more: "A refused image counts under its number and adds nothing else."
abbrev pub after : Tally → Counted → Tally
after sum (Ok tally) = plus sum tally
after sum (Err why) = sum

-- the total of a month of files, in their order, after what was counted before them
unfoldable pub total_from : Tally → List Counted → Tally
total_from sum [] = sum
total_from sum (file ∷ files) = total_from (after sum file) files

abbrev pub total : List Counted → Tally
total files = total_from empty files

-- what one file adds, and what it has as deepest chain
abbrev pub adds : Figure → Counted → ℕ
adds f (Ok tally) = figure f tally
adds f (Err why) = 0

abbrev pub deepest_of_file : Counted → ℕ
deepest_of_file (Ok tally) = tally.deepest
deepest_of_file (Err why) = 0

unfoldable pub sum : (Counted → ℕ) → List Counted → ℕ
sum count [] = 0
sum count (file ∷ files) = count file + sum count files

unfoldable pub largest : (Counted → ℕ) → List Counted → ℕ
largest count [] = 0
largest count (file ∷ files) = max (count file) (largest count files)

-- "Show once, for all counted figures, that a total is the sum over the accepted files .."
abbrev pub TotalIsSum : Type 0
TotalIsSum = (f : Figure) (files : List Counted) → figure f (total files) ≡ sum (adds f) files

-- "the deepest chain (in frames) of all is the largest"
abbrev pub DeepestIsLargest : Type 0
DeepestIsLargest = (files : List Counted) → (total files).deepest ≡ largest deepest_of_file files

-- the four tags together
abbrev pub of_all : (Tag → ℕ) → ℕ
of_all count = count var + count structure + count list + count constant

-- ".. and that the tags add up to H", for each image that is collected; the kept ones to the cells that its answer says are kept, the
-- dropped ones to those dropped
pub record AddUp (X : Image) (cells entries : ℕ → Bool) (tally : Tally) : Type 0 where
  pub to_kept : of_all (λ tag. figure (kept tag) tally) ≡ (counted cells entries X).cells_kept
  pub to_dropped : of_all (λ tag. figure (dropped tag) tally) ≡ (counted cells entries X).cells_dropped
  pub to_h : of_all (λ tag. figure (kept tag) tally) + of_all (λ tag. figure (dropped tag) tally) ≡ reg X H

abbrev pub TagsAddUp : Type 0
TagsAddUp = (X Y : Image) (to : CollectedTo X Y) → AddUp X to.cells to.entries (tally_of to.cells to.entries X)

-- "sums are 64-bit and exact"
abbrev pub limit : ℕ
limit = 2 ^ 64

-- one more of any tag counts
abbrev pub Room : Tags → Type 0
Room tags = (tag : Tag) → of_tag tag tags + 1 < limit

-- no counted figure is above the bound
abbrev pub Under : ℕ → Tally → Type 0
Under most tally = (f : Figure) → figure f tally ≤ most

-- no sum of two figures wraps: what adding two tallies requires
abbrev pub Fits : Tally → Tally → Type 0
Fits a b = (f : Figure) → figure f a + figure f b < limit

-- "up to 65,535 of them"; "Each file has the listing program's sizes", of which the heap's is the largest
abbrev pub files_most : ℕ
files_most = 65535

abbrev pub heap_cells : ℕ
heap_cells = 2048

abbrev pub stack_words : ℕ
stack_words = 1024

abbrev pub trail_entries : ℕ
trail_entries = 512

pub record Lent (lent : Image) : Type 0 where
  pub heap : length lent.heap ≤ heap_cells
  pub stack : length lent.stack ≤ stack_words
  pub trail : length lent.trail ≤ trail_entries

-- what a file gives that was read into areas of those sizes
pub record FromFile (given : Counted) : Type 0 where
  pub file : List ℕ
  pub lent : Image
  pub work : List ℕ
  pub left : Image
  pub work' : List ℕ
  pub sizes : Lent lent
  pub counts : CountsFile file lent work given left work'

-- the total of so many files of those sizes, at most: what a loop over the files keeps
pub record Within (files : ℕ) (tally : Tally) : Type 0 where
  pub counted : Under (files * heap_cells) tally
  pub deepest : tally.deepest ≤ stack_words

-- no total of a month wraps: its figures are at most 134,215,680
abbrev pub TotalFits : Type 0
TotalFits = (files : List Counted) → length files ≤ files_most → ((file : Counted) → In file files → FromFile file) → Under (files_most * heap_cells) (total files)
