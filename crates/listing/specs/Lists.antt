-- What `list` promises. Document 01, 'Listing program'. Assumes nothing.
use Rattle.std.specs.Prelude.{ℕ, ◌+◌, ◌*◌, ◌≤◌, min, ◌≡◌, List, ◌++◌, length, take, drop}
use Rattle.machine.specs.Layout.{Image}
use Rattle.machine.specs.Refusals.{Where, accepted, refused, verdict}
use Rattle.machine.specs.Moved.{CollectedTo}
use Rattle.machine.specs.Answers.{counted, work_after}
use Rattle.freeze.specs.Verdicts as files
use Rattle.freeze.specs.Thaw.{counts_in, image_in, front, filled, thaw_verdict}
use Rattle.freeze.specs.RoundTrips.{just_stack}
use Rattle.listing.specs.Text.{collected_text, refused_text, file_text}

-- "It reads a freeze file": the lent areas with the words of an accepted file in front
abbrev pub thawed : List ℕ → Image → Image
thawed file lent = filled lent (image_in (counts_in file) file)

-- "It collects, taking as the stack the counted front"
abbrev pub taken : List ℕ → Image → Image
taken file lent = just_stack (counts_in file).stack (thawed file lent)

-- the areas after a collection of that: of the stack only its front was lent, and what is above stays
unfoldable pub joined : Image → Image → Image
joined areas Y = record { control = Y.control; stack = front areas.stack Y.stack; heap = Y.heap; trail = Y.trail }

-- the text, and what the four areas and the work words are left as
pub record Outcome : Type 0 where
  pub text : List ℕ
  pub areas : Image
  pub work : List ℕ

-- "It collects .. and prints." "A refusal prints one line." "A bad file: `file`, number, offset." A bad file leaves everything lent as
-- it was; a refusal leaves the areas as they were read.
pub data Outcomes (file : List ℕ) (lent : Image) (work : List ℕ) : Outcome → Type 0 where
  bad_file : (number offset : ℕ) → thaw_verdict lent file ≡ files.refused number offset
      → Outcomes file lent work (record { text = file_text number offset; areas = lent; work = work })
  refused_image : (number : ℕ) (place : Where) → thaw_verdict lent file ≡ files.accepted → verdict (length work) (taken file lent) ≡ refused number place
      → Outcomes file lent work (record { text = refused_text number place; areas = thawed file lent; work = work_after (taken file lent) work })
  collected : (Y : Image) → thaw_verdict lent file ≡ files.accepted → verdict (length work) (taken file lent) ≡ accepted → (to : CollectedTo (taken file lent) Y)
      → Outcomes file lent work (record {
        text = collected_text (counted to.cells to.entries (taken file lent)) Y;
        areas = joined (thawed file lent) Y;
        work = work_after (taken file lent) work;
      })

-- the text over the front of an output; of a longer text as much as the output holds
abbrev pub over : List ℕ → List ℕ → List ℕ
over output text = take (length output) text ++ drop (length text) output

-- a space and ten digits hold every word
abbrev pub word_most : ℕ
word_most = 11

-- the first line, its four numbers of twenty digits; a refusal's line and a bad file's are shorter
abbrev pub line_most : ℕ
line_most = 95

-- the names of the areas, the ends of their lines, and the last line
abbrev pub names_most : ℕ
names_most = 29

-- the lines of the areas are no longer: their names, the ends of their lines and their words
abbrev pub areas_most : Image → ℕ
areas_most lent = 25 + word_most * (length lent.control + length lent.stack + length lent.heap + length lent.trail)

-- no text is longer
abbrev pub text_most : Image → ℕ
text_most lent = line_most + names_most + word_most * (length lent.control + length lent.stack + length lent.heap + length lent.trail)

-- What `list` promises, of every file, all lent areas, every lent work and output: its answer r, and all that is lent at exit.
pub record Lists (file : List ℕ) (lent : Image) (work output : List ℕ) (r : ℕ) (left : Image) (work' output' : List ℕ) : Type 0 where
  pub text : List ℕ
  pub outcome : Outcomes file lent work (record { text = text; areas = left; work = work' })
  pub most : length text ≤ text_most lent
  pub answer : r ≡ min (length text) (length output)
  pub written : output' ≡ over output text

-- the answer counts bytes at the output's front, for a caller that goes on with those
abbrev pub CountsBytes : ℕ → List ℕ → Type 0
CountsBytes r output = (r ≤ length output) × (r ≡ length (take r output))
