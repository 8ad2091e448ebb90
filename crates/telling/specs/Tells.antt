-- What `tell` promises. Document 02, order 4, and docs/WHY.md. Assumes nothing.
use Rattle.std.specs.Prelude.{ℕ, ◌+◌, ◌*◌, ◌≤◌, min, ◌≡◌, List, length}
use Rattle.machine.specs.Layout.{Image}
use Rattle.machine.specs.Answers.{work_after}
use Rattle.freeze.specs.Thaw.{thaw_verdict}
use Rattle.freeze.specs.Verdicts as files
use Rattle.listing.specs.Text.{file_text}
use Rattle.listing.specs.Lists.{thawed, taken, over}
use Rattle.holder.specs.Answers.{Said, Outcome}
use Rattle.telling.specs.Text.{said_text}

-- the text, and what all that is lent is left as
pub record Left : Type 0 where
  pub text : List ℕ
  pub areas : Image
  pub work : List ℕ
  pub room : List ℕ

-- A bad file leaves everything lent as it was. Else the areas are left as they were read, and the stack is its counted front, as the listing has it.
pub data Outcomes (file : List ℕ) (lent : Image) (work : List ℕ) (x : ℕ) (room : List ℕ) : Left → Type 0 where
  bad_file : (number offset : ℕ) → thaw_verdict lent file ≡ files.refused number offset
      → Outcomes file lent work x room (record { text = file_text number offset; areas = lent; work = work; room = room })
  told : (said : Said) (room' : List ℕ) → thaw_verdict lent file ≡ files.accepted → Outcome (taken file lent) (length work) x room said room'
      → Outcomes file lent work x room (record {
        text = said_text (taken file lent) said room';
        areas = thawed file lent;
        work = work_after (taken file lent) work;
        room = room';
      })

-- the root's line, or any other that stands alone
abbrev pub root_most : ℕ
root_most = 120

-- ten digits, a tag, a space and ten digits, the line's end
abbrev pub cell_most : ℕ
cell_most = 29

-- no text is longer
abbrev pub text_most : List ℕ → ℕ
text_most room = root_most + cell_most * length room

-- What `tell` promises, of every file, all lent areas, every lent work, room and output: its answer r, and all that is lent at exit.
pub record Tells (file : List ℕ) (lent : Image) (work : List ℕ) (x : ℕ) (room output : List ℕ) (r : ℕ) (left : Image) (work' room' output' : List ℕ) : Type 0 where
  pub text : List ℕ
  pub outcome : Outcomes file lent work x room (record { text = text; areas = left; work = work'; room = room' })
  pub most : length text ≤ text_most room
  pub answer : r ≡ min (length text) (length output)
  pub written : output' ≡ over output text
