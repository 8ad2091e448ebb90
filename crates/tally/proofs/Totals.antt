-- The totals of a month: each counted figure is the sum over the accepted files, the deepest chain the largest, and the four tags of an
-- image add up to its H. By recursion over the files. Assumes nothing.
use Rattle.std.specs.Prelude.{Ok, Err}
use Prim.Native.Nat.{ℕ, ◌+◌, max}
use mathlib.Core.Path.{◌≡◌, refl, ◌∙◌}
use mathlib.Core.Bool.{true, not}
use mathlib.Core.List.{List, [], ◌∷◌, ◌++◌}
use native.Mathlib.Omega.{arith}
use Rattle.machine.specs.Layout.{H, reg}
use Rattle.machine.specs.Answers.{counted}
use Rattle.machine.proofs.Below.{below_all}
use Rattle.tally.specs.declared.Tally.{Tally}
use Rattle.tally.specs.Figures.{Tag, var, structure, list, constant, Figure, kept, dropped, entries_kept, entries_dropped, choice_points, figure, tally_by, tagged, count_of, tally_of}
use Rattle.tally.specs.Totals.{plus, after, empty, total_from, adds, deepest_of_file, sum, largest, TotalIsSum, DeepestIsLargest, TagsAddUp}
use Rattle.tally.specs.Counts.{Counted}
use Rattle.tally.specs.Parts.{in_heap}
use Rattle.tally.proofs.Tagged.{of-by}
use Rattle.tally.proofs.Keeping.{tagged-split, tags-together}

-- what stands under a figure
pub figure-by : (count : Figure → ℕ) (deepest : ℕ) (f : Figure) → figure f (tally_by count deepest) ≡ count f
figure-by count deepest (kept tag) = of-by (λ g. count (kept g)) tag
figure-by count deepest (dropped tag) = of-by (λ g. count (dropped g)) tag
figure-by count deepest entries_kept = refl
figure-by count deepest entries_dropped = refl
figure-by count deepest choice_points = refl

pub figure-plus : (f : Figure) (a b : Tally) → figure f (plus a b) ≡ figure f a + figure f b
figure-plus f a b = figure-by (λ g. figure g a + figure g b) (max a.deepest b.deepest) f

figure-after : (f : Figure) (so_far : Tally) (file : Counted) → figure f (after so_far file) ≡ figure f so_far + adds f file
figure-after f so_far (Ok tally) = figure-plus f so_far tally
figure-after f so_far (Err why) = omega arith

sum-from : (f : Figure) (so_far : Tally) (files : List Counted) → figure f (total_from so_far files) ≡ figure f so_far + sum (adds f) files
unfolding total_from sum
sum-from f so_far [] = omega arith
sum-from f so_far (file ∷ files) = omega (arith, sum-from f (after so_far file) files, figure-after f so_far file)

pub total-is-sum : TotalIsSum
total-is-sum f files = omega (arith, sum-from f empty files, figure-by (λ g. 0) 0 f)

deepest-after : (so_far : Tally) (file : Counted) → (after so_far file).deepest ≡ max so_far.deepest (deepest_of_file file)
deepest-after so_far (Ok tally) = refl
deepest-after so_far (Err why) = omega arith

deepest-from : (so_far : Tally) (files : List Counted) → (total_from so_far files).deepest ≡ max so_far.deepest (largest deepest_of_file files)
unfolding total_from largest
deepest-from so_far [] = omega arith
deepest-from so_far (file ∷ files) = omega (arith, deepest-from (after so_far file) files, deepest-after so_far file)

pub deepest-is-largest : DeepestIsLargest
deepest-is-largest files = omega (arith, deepest-from empty files)

-- one file more
pub total-next : (so_far : Tally) (files : List Counted) (file : Counted) → total_from so_far (files ++ (file ∷ [])) ≡ after (total_from so_far files) file
unfolding total_from
total-next so_far [] file = refl
total-next so_far (first ∷ files) file = total-next (after so_far first) files file

pub tags-add-up : TagsAddUp
unfolding tally_of count_of counted
tags-add-up X Y to =
    let k = tags-together X.heap to.cells (reg X H) in
    let all = tags-together X.heap (λ x. true) (reg X H) ∙ below_all (reg X H) in
    record {
      to_kept = k;
      to_dropped = omega (arith, k, all, split var, split structure, split list, split constant);
      to_h = omega (arith, all, split var, split structure, split list, split constant);
    }
  where
    split : (tag : Tag) → tagged X.heap to.cells tag (reg X H) + tagged X.heap (λ x. not (to.cells x)) tag (reg X H) ≡ in_heap X.heap (reg X H) tag
    split tag = tagged-split X.heap to.cells tag (reg X H)
