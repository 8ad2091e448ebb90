-- What stands between the phases of a collection: after the image is admitted, and after its reached cells are counted. Assumes nothing.
use Rattle.std.specs.Prelude.{Ok}
use Rattle.std.specs.Prelude.{ℕ, ◌≤◌, ◌<◌, ◌≡◌, ◌↔◌, Bool, true, List, length, get_or, drop}
use Rattle.machine.specs.Layout.{Image, H, reg}
use Rattle.machine.specs.Refusals.{work_words}
use Rattle.machine.specs.Reached.{Reached}
use Rattle.machine.specs.Moved.{below, CollectedTo}
use Rattle.machine.specs.Answers.{answer_of, counted}
use Rattle.machine.specs.declared.Collected.{Collected}
use Rattle.machine.proofs.Accepted.{Accepted}
use Rattle.chains.specs.Notes.{Noted}
use Rattle.counts.specs.Counts.{Counting}

-- the image is accepted, no heap cell is marked, and the roles are noted
pub record Reachable (X : Image) (work : List ℕ) : Type 0 where
  pub accepted : Accepted X
  pub room : work_words X ≤ length work
  pub blank : (x : ℕ) → x < length X.heap → get_or work x 0 ≡ 0
  pub noted : Noted X work (length X.heap)

-- the work words count exactly the reached cells, n of them, and the roles are noted
pub record Slidable (X : Image) (work : List ℕ) (n : ℕ) : Type 0 where
  pub accepted : Accepted X
  pub room : work_words X ≤ length work
  pub cells : ℕ → Bool
  pub exact : (x : ℕ) → x < reg X H → (cells x ≡ true) ↔ Reached X x
  pub counting : Counting cells (reg X H) work
  pub total : n ≡ below cells (reg X H)
  pub noted : Noted X work (length X.heap)

-- marking and counting write no work word but the heap's
pub record Reaches (X : Image) (work work' : List ℕ) (n : ℕ) : Type 0 where
  pub slidable : Slidable X work' n
  pub rest : drop (reg X H) work' ≡ drop (reg X H) work
  pub same : length work' ≡ length work

-- the areas are those of a collection, and the answer counts what it kept and dropped
pub record Closes (X Y : Image) (r : Collected) : Type 0 where
  pub to : CollectedTo X Y
  pub answer : answer_of (Ok r) ≡ counted to.cells to.entries X
