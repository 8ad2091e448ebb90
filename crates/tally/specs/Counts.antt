-- What `count_file` promises. Document 02, order 1. Assumes nothing.
use Rattle.std.specs.Prelude.{ℕ, ◌≡◌, Result, Ok, Err, List, length}
use Rattle.machine.specs.declared.Refusal.{Refusal}
use Rattle.machine.specs.Layout.{Image}
use Rattle.machine.specs.Refusals.{accepted, verdict}
use Rattle.machine.specs.Moved.{CollectedTo}
use Rattle.machine.specs.Answers.{verdict_of, work_after}
use Rattle.freeze.specs.declared.FileRefusal.{FileRefusal}
use Rattle.freeze.specs.Verdicts as files
use Rattle.freeze.specs.Thaw.{thaw_verdict}
use Rattle.listing.specs.Lists.{thawed, taken, joined}
use Rattle.tally.specs.declared.Tally.{Tally}
use Rattle.tally.specs.declared.Uncounted.{Uncounted}
use Rattle.tally.specs.declared.Uncounted.TheVariants as uncounted
use Rattle.tally.specs.Figures.{tally_of}

-- what a file gives: its figures, or why it has none
abbrev pub Counted : Type 0
Counted = Result Tally Uncounted

-- The answer, the four areas and the work words, of every file, all lent areas and every lent work. A bad file leaves everything lent as
-- it was; a refused image leaves the areas as they were read; an accepted one is collected, and its figures are counted in the image as
-- it was read, which takes as the stack the counted front.
pub data CountsFile (file : List ℕ) (lent : Image) (work : List ℕ) : Counted → Image → List ℕ → Type 0 where
  bad_file : (refusal : FileRefusal) → thaw_verdict lent file ≡ files.verdict_of refusal → CountsFile file lent work (Err (uncounted.File refusal)) lent work
  refused_image : (refusal : Refusal) → thaw_verdict lent file ≡ files.accepted → verdict (length work) (taken file lent) ≡ verdict_of refusal
      → CountsFile file lent work (Err (uncounted.Image refusal)) (thawed file lent) (work_after (taken file lent) work)
  counted : (Y : Image) → thaw_verdict lent file ≡ files.accepted → verdict (length work) (taken file lent) ≡ accepted → (to : CollectedTo (taken file lent) Y)
      → CountsFile file lent work (Ok (tally_of to.cells to.entries (taken file lent))) (joined (thawed file lent) Y) (work_after (taken file lent) work)
