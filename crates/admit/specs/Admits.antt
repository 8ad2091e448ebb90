-- What `admit` promises of every image and every lent work: the verdict; the work words as the table says where it refuses, and else 0
-- for each heap cell and its role's number for each stack word. Below it, what its parts promise. Assumes nothing.
use Rattle.machine.specs.declared.Refusal.{Refusal}
use Rattle.std.specs.Prelude.{Result}
use Rattle.std.specs.Prelude.{ℕ, ◌≤◌, ◌<◌, ◌≡◌, ◌≢◌, List, [], length, get_or, drop}
use Rattle.machine.specs.Layout.{Image}
use Rattle.machine.specs.Refusals.{accepted, work_words, first_of, cell_checks, entry_checks, first_checks, image_checks, verdict}
use Rattle.machine.specs.Answers.{work_after}
use Rattle.machine.proofs.Accepted.{Sizes, Fits}
use Rattle.chains.specs.Notes.{Noted}
use Rattle.cells.specs.Cells.{checked_to, Right}

pub record Admitted (X : Image) (work work' : List ℕ) : Type 0 where
  pub blank : (x : ℕ) → x < length X.heap → get_or work' x 0 ≡ 0
  pub noted : Noted X work' (length X.heap)
  pub rest : drop (work_words X) work' ≡ drop (work_words X) work
  pub same : length work' ≡ length work

pub record Admits (X : Image) (work : List ℕ) (r : Result (Unit {0}) Refusal) (work' : List ℕ) : Type 0 where
  pub gives : checked_to r ≡ verdict (length work) X
  pub passed : verdict (length work) X ≡ accepted → Admitted X work work'
  pub refused : verdict (length work) X ≢ accepted → work' ≡ work_after X work

-- ---- the parts

-- an image of legal size, whose work words are 0
pub record Blanked (X : Image) (work : List ℕ) : Type 0 where
  pub sizes : Sizes X
  pub room : work_words X ≤ length work
  pub blank : (j : ℕ) → j < work_words X → get_or work j 0 ≡ 0

-- an image whose stack words are noted; the work words of the heap are 0
pub record WordsNoted (X : Image) (work : List ℕ) : Type 0 where
  pub sizes : Sizes X
  pub fits : Fits X
  pub room : work_words X ≤ length work
  pub blank : (x : ℕ) → x < length X.heap → get_or work x 0 ≡ 0
  pub right : Right X work (length X.heap)

pub record ChecksWords (X : Image) (r : Result (Unit {0}) Refusal) : Type 0 where
  pub gives : checked_to r ≡ first_of (cell_checks X (entry_checks X []))

pub record ChecksNoted (X : Image) (work : List ℕ) (r : Result (Unit {0}) Refusal) (work' : List ℕ) : Type 0 where
  pub gives : checked_to r ≡ first_of (cell_checks X (entry_checks X (first_checks X)))
  pub stays : work' ≡ work

pub record ChecksImage (X : Image) (work : List ℕ) (r : Result (Unit {0}) Refusal) (work' : List ℕ) : Type 0 where
  pub gives : checked_to r ≡ first_of (image_checks X)
  pub passed : first_of (image_checks X) ≡ accepted → Admitted X work work'
  pub rest : drop (work_words X) work' ≡ drop (work_words X) work
  pub same : length work' ≡ length work
