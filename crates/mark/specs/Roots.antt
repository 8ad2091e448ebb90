-- The roots, and what they refer to. Saved arguments and stack cells are both words at some indexes below an end, so one definition serves both.
-- Assumes nothing.
use Rattle.std.specs.Prelude.{ℕ, ◌+◌, ◌≤◌, ◌<◌, ◌≡◌, List, get_or, length}
use Rattle.cell.specs.Word.{Refers}
use Rattle.machine.specs.Layout.{N, fixed, field}
use Rattle.machine.specs.Roles.{cell, code_of}
use Rattle.mark.specs.Whole.{Picked}

-- a root at an index below n, one of those that Is picks, refers to x
pub record Named (heap words : List ℕ) (Is : ℕ → Type 0) (n x : ℕ) : Type 0 where
  pub at : ℕ
  pub below : at < n
  pub picked : Is at
  pub refers : Refers heap (get_or words at 0) x

-- the saved arguments
abbrev pub Arguments : List ℕ → ℕ → Type 0
Arguments control = Picked control (λ (i : ℕ). fixed ≤ i) (fixed + field control 0 N)

-- a saved argument refers to x
abbrev pub ByArgument : List ℕ → List ℕ → ℕ → Type 0
ByArgument control heap = Named heap control (λ (i : ℕ). fixed ≤ i) (fixed + field control 0 N)

-- the note of the stack word i says that it is a cell
abbrev pub NotedCell : List ℕ → ℕ → Type 0
NotedCell notes i = get_or notes i 0 ≡ code_of cell

-- the stack words that are cells
abbrev pub StackCells : List ℕ → List ℕ → ℕ → Type 0
StackCells stack notes = Picked stack (NotedCell notes) (length stack)

-- a stack word that is a cell refers to x
abbrev pub ByCell : List ℕ → List ℕ → List ℕ → ℕ → Type 0
ByCell stack notes heap = Named heap stack (NotedCell notes) (length stack)
