-- What the two round trips say. Document 01, 'Freeze file': "Both round trips are proved". Assumes nothing.
use Rattle.std.specs.Prelude.{ℕ, ◌^◌, ◌<◌, ◌≤◌, ◌≡◌, true, List, length, get_or, take, Result, Ok}
use Rattle.machine.specs.Layout.{Image}
use Rattle.machine.specs.Refusals.{legal_sizes}
use Rattle.freeze.specs.declared.AreaCounts.{AreaCounts}
use Rattle.freeze.specs.declared.FileRefusal.{FileRefusal}
use Rattle.freeze.specs.Thaw.{counts_of, lengths_of, within, front, filled, Thaws}
use Rattle.freeze.specs.Freeze.{Freezes}

-- "All words are unsigned 32-bit"; a file is bytes
abbrev pub Words : List ℕ → Type 0
Words l = (i : ℕ) → get_or l i 0 < 2 ^ 32

abbrev pub Bytes : List ℕ → Type 0
Bytes l = (i : ℕ) → get_or l i 0 < 256

pub record WordImage (X : Image) : Type 0 where
  pub control : Words X.control
  pub stack : Words X.stack
  pub heap : Words X.heap
  pub trail : Words X.trail

-- the counted front of each area
abbrev pub counted : AreaCounts → Image → Image
counted n X = record {
  control = take n.control X.control;
  stack = take n.stack X.stack;
  heap = take n.heap X.heap;
  trail = take n.trail X.trail;
}

-- "each written state reads back into areas of legal size with room for its counts": whatever `freeze` and then, on the bytes that it
-- counted, `thaw` promise, the answer is the counts of the state and the areas hold its counted words in front of what they held
abbrev pub WrittenReadsBack : Type 0
WrittenReadsBack =
    (X lent : Image) (output left : List ℕ) (n : ℕ) (r : Result AreaCounts FileRefusal) (areas : Image)
    → WordImage X
    → Freezes X output (Ok n) left
    → legal_sizes lent ≡ true
    → within (counts_of X) (lengths_of lent) ≡ true
    → Thaws (take n left) lent r areas
    → (r ≡ Ok (counts_of X)) × (areas ≡ filled lent (counted (counts_of X) X))

-- the areas as they are, but of the stack just the counted front
abbrev pub just_stack : ℕ → Image → Image
just_stack n X = record { control = X.control; stack = take n X.stack; heap = X.heap; trail = X.trail }

-- "each accepted file is written again byte for byte when the writer is given just the counted front of the stack": whatever `thaw` and
-- then, into an output with room for the file, `freeze` promise, the answer is the file's length and the output begins with the file
abbrev pub ReadWritesAgain : Type 0
ReadWritesAgain =
    (file : List ℕ) (lent : Image) (n : AreaCounts) (areas : Image) (output : List ℕ) (r : Result ℕ FileRefusal) (left : List ℕ)
    → Bytes file
    → Thaws file lent (Ok n) areas
    → length file ≤ length output
    → Freezes (just_stack n.stack areas) output r left
    → (r ≡ Ok (length file)) × (left ≡ front output file)
