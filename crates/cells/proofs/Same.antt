-- The code's tests read no more of an image than they need: 5 and 6 no trail, and 7 neither the heap nor more of the stack than its length.
-- So what they answer at one image is the table's verdict on each that has the rest in common with it. Assumes nothing.
use Prim.Native.Nat.{ℕ}
use mathlib.Core.Path.{◌≡◌, refl, sym, ap₂, ◌∙◌, subst₂}
use mathlib.Core.Bool.{Bool}
use mathlib.Core.List.{List, []}
use lib.ListN.{length}
use Rattle.std.specs.Prelude.{Option}
use Rattle.cells.specs.declared.places.Bad.{Bad}
use Rattle.cells.specs.declared.places.Bad.TheVariants.{Bits, Reference}
use Rattle.machine.specs.declared.Area.TheVariants.{Trail}
use Rattle.machine.specs.Layout.{Image, T, field, reg}
use Rattle.machine.specs.Lowest.{Lowest}
use Rattle.machine.specs.Refusals.{Verdict, in_area, refused, or_else, first_of, bad_heap, cell_checks, entry_checks}
use Rattle.machine.proofs.Lowest.{found}
use Rattle.cells.specs.Cells.{names_noted, well_on_stack, well_as_argument, well_entry, marked_cell, wrong_stack, wrong_argument, wrong_entry, on_heap, on_stack, on_control, checks_of, Right}
use Rattle.cells.proofs.Bridge.{cells_bridge, entries-bridge}

-- the image with another trail
abbrev trailing : Image → List ℕ → Image
trailing X trail = record { control = X.control; stack = X.stack; heap = X.heap; trail = trail }

module _ (work : List ℕ) (notes : ℕ) where
  no-trail : (bad : Bad) (X : Image) (trail : List ℕ) → checks_of bad (trailing X trail) work notes ≡ checks_of bad X work notes
  unfolding checks_of on_heap on_stack on_control bad_heap marked_cell wrong_stack well_on_stack wrong_argument well_as_argument names_noted
  no-trail Bits X trail = refl
  no-trail Reference X trail = refl

  module _ (Y X : Image) (c : X.control ≡ Y.control) where
    module _ (s : X.stack ≡ Y.stack) (h : X.heap ≡ Y.heap) where
      checks-same : (bad : Bad) → checks_of bad X work notes ≡ checks_of bad Y work notes
      checks-same bad =
          (λ i. checks_of bad (record { control = c i; stack = s i; heap = h i; trail = X.trail }) work notes) ∙ no-trail bad Y X.trail

    module _ (s : length X.stack ≡ length Y.stack) (t : X.trail ≡ Y.trail) where
      entry-same : (i : ℕ) → wrong_entry Y work notes i ≡ wrong_entry X work notes i
      unfolding wrong_entry well_entry
      entry-same i = rw (c, s, t)

      lowest-same : (o : Option ℕ) → Lowest (wrong_entry Y work notes) (reg Y T) o → Lowest (wrong_entry X work notes) (reg X T) o
      lowest-same o = subst₂ (λ (test : ℕ → Bool) (n : ℕ). Lowest test n o) (λ j i. entry-same i j) (λ j. field (sym c j) 0 T)

module _ (Y X : Image) {work : List ℕ} {notes : ℕ} (c : X.control ≡ Y.control) where
  module _ (s : X.stack ≡ Y.stack) (h : X.heap ≡ Y.heap) (r : Right X work notes) where
    pub cells-same : first_of (cell_checks X []) ≡ or_else (first_of (checks_of Bits Y work notes)) (first_of (checks_of Reference Y work notes))
    cells-same = let same = checks-same work notes Y X c s h in cells_bridge X r ∙ ap₂ (λ (bits references : List Verdict). or_else (first_of bits) (first_of references)) (same Bits) (same Reference)

  module _ (s : length X.stack ≡ length Y.stack) (t : X.trail ≡ Y.trail) (r : Right X work notes) where
    pub entries-same : (o : Option ℕ) → Lowest (wrong_entry Y work notes) (reg Y T) o → first_of (entry_checks X []) ≡ found (λ i. refused 7 (in_area Trail i)) o
    entries-same o f = entries-bridge X r o (lowest-same work notes Y X c s t o f)
