-- What is counted of a file that is read into the fronts of the lent areas: an accepted file fills those fronts, so that its image is
-- what the file holds and nothing else. Assumes nothing.
use Rattle.std.specs.Prelude.{Ok, Err}
use Prim.Native.Nat.{ℕ}
use mathlib.Core.Path.{◌≡◌, sym, ap, ◌∙◌, subst}
use mathlib.Core.List.{List, ◌++◌, append-nil}
use native.Mathlib.Omega.{arith}
use lib.ListN.{length, take, drop, take-append-drop, drop_of_length-le}
use lib.Seq.{take_all}
use Rattle.machine.specs.Layout.{Image}
use Rattle.machine.specs.Refusals.{accepted, verdict}
use Rattle.machine.specs.Moved.{move_stack, moved, CollectedTo}
use Rattle.machine.specs.Answers.{work_after}
use Rattle.machine.proofs.Each.{length-each}
use Rattle.freeze.specs.declared.AreaCounts.{AreaCounts}
use Rattle.freeze.specs.Kinds.{CONTROL, STACK, HEAP, TRAIL}
use Rattle.freeze.specs.Verdicts as files
use Rattle.freeze.specs.Thaw.{image_of, lengths_of, counts_in, image_in, control_at, stack_at, heap_at, trail_at, front, filled, thaw_verdict}
use Rattle.freeze.proofs.WordLaws.{length-words}
use Rattle.listing.specs.Lists.{thawed, taken, joined}
use Rattle.tally.specs.declared.Uncounted.TheVariants as uncounted
use Rattle.tally.specs.Figures.{tally_of}
use Rattle.tally.specs.Totals.{Lent}
use Rattle.tally.specs.Counts as counts
use Rattle.tally.specs.Counts.{Counted}
use Rattle.tally.proofs.Within.{file-within}
use Rattle.report.specs.First.{room_of, areas_of, image_of_file}
use Rattle.report.specs.Parts.{Fronts, CountsFirst, bad_file, refused_image, counted, Figured}

-- as many words as there is room for fill it
front-full : (area new : List ℕ) → length new ≡ length area → front area new ≡ new
front-full area new e = ap (λ (l : List ℕ). new ++ l) (drop_of_length-le area {i = length new} (omega arith)) ∙ append-nil new

-- the image of a file has as many words as the file counts
pub image-lengths : (file : List ℕ) → lengths_of (image_of_file file) ≡ counts_in file
unfolding image_in
image-lengths file = λ i. record {
  control = length-words file CONTROL control_at (counts_in file).control i;
  stack = length-words file STACK (stack_at (counts_in file)) (counts_in file).stack i;
  heap = length-words file HEAP (heap_at (counts_in file)) (counts_in file).heap i;
  trail = length-words file TRAIL (trail_at (counts_in file)) (counts_in file).trail i;
}

-- the fronts of areas, and what was left in them put back in front of the rest
abbrev pub fronts_in : AreaCounts → Image → Image
fronts_in n lent = image_of (take n.control lent.control) (take n.stack lent.stack) (take n.heap lent.heap) (take n.trail lent.trail)

abbrev pub put_back : AreaCounts → Image → Image → Image
put_back n lent left =
    image_of (left.control ++ drop n.control lent.control) (left.stack ++ drop n.stack lent.stack) (left.heap ++ drop n.heap lent.heap) (left.trail ++ drop n.trail lent.trail)

put-fronts : (n : AreaCounts) (lent : Image) → put_back n lent (fronts_in n lent) ≡ lent
put-fronts n lent = λ i. image_of (take-append-drop n.control lent.control i) (take-append-drop n.stack lent.stack i) (take-append-drop n.heap lent.heap i) (take-append-drop n.trail lent.trail i)

put-filled : (n : AreaCounts) (lent left : Image) → lengths_of left ≡ n → put_back n lent left ≡ filled lent left
unfolding filled
put-filled n lent left e = ap (λ (m : AreaCounts). put_back m lent left) (sym e)

module _ (file : List ℕ) (areas : Image) (full : lengths_of areas ≡ counts_in file) where
  -- lengths of the image and of the areas, area by area
  same : lengths_of (image_of_file file) ≡ lengths_of areas
  same = image-lengths file ∙ sym full

  pub thawed-full : thawed file areas ≡ image_of_file file
  unfolding filled
  thawed-full = λ i. image_of
      (front-full areas.control (image_of_file file).control (ap (λ (n : AreaCounts). n.control) same) i)
      (front-full areas.stack (image_of_file file).stack (ap (λ (n : AreaCounts). n.stack) same) i)
      (front-full areas.heap (image_of_file file).heap (ap (λ (n : AreaCounts). n.heap) same) i)
      (front-full areas.trail (image_of_file file).trail (ap (λ (n : AreaCounts). n.trail) same) i)

  pub taken-full : taken file areas ≡ image_of_file file
  taken-full =
      ap (λ (X : Image). image_of X.control (take (counts_in file).stack X.stack) X.heap X.trail) thawed-full
      ∙ ap (λ (s : List ℕ). image_of (image_of_file file).control s (image_of_file file).heap (image_of_file file).trail)
      (take_all (counts_in file).stack (image_of_file file).stack (omega (arith, ap (λ (n : AreaCounts). n.stack) (image-lengths file))))

-- a collection keeps the stack's length
stack-length : {X Y : Image} → CollectedTo X Y → length Y.stack ≡ length X.stack
unfolding moved
stack-length {X} {Y} to = ap (λ (Z : Image). length Z.stack) to.leaves ∙ length-each (move_stack to.cells to.entries X) 0 X.stack

joined-full : {X Y : Image} → CollectedTo X Y → joined X Y ≡ Y
unfolding joined
joined-full {X} {Y} to = ap (λ (s : List ℕ). image_of Y.control s Y.heap Y.trail) (front-full X.stack Y.stack (stack-length to))

module _ (file : List ℕ) (lent : Image) (work : List ℕ) (n : AreaCounts) (f : Fronts (room_of lent) file n) (fits : lengths_of (fronts_in n lent) ≡ n) where
  abbrev areas : Image
  areas = fronts_in n lent

  verdict-same : thaw_verdict areas file ≡ thaw_verdict (areas_of (room_of lent)) file
  verdict-same = f.same areas fits

  abbrev Left : Counted → Image → List ℕ → Type 0
  Left r left work' = CountsFirst file lent work r (put_back n lent left) work'

  module _ (v : thaw_verdict areas file ≡ files.accepted) where
    whole : thaw_verdict (areas_of (room_of lent)) file ≡ files.accepted
    whole = sym verdict-same ∙ v

    full : lengths_of areas ≡ counts_in file
    full = fits ∙ f.exact whole

    image-is : taken file areas ≡ image_of_file file
    image-is = taken-full file areas full

    -- a refused image
    left-refused : put_back n lent (thawed file areas) ≡ filled lent (image_of_file file)
    left-refused =
        ap (put_back n lent) (thawed-full file areas full) ∙ put-filled n lent (image_of_file file) (image-lengths file ∙ sym (f.exact whole))

    -- a collection
    left-counted : {Y : Image} → CollectedTo (image_of_file file) Y → lengths_of (joined (thawed file areas) Y) ≡ n → put_back n lent (joined (thawed file areas) Y) ≡ filled lent Y
    left-counted {Y} to l =
        let e : joined (thawed file areas) Y ≡ Y = ap (λ (X : Image). joined X Y) (thawed-full file areas full) ∙ joined-full to in
        ap (put_back n lent) e ∙ put-filled n lent Y (sym (ap lengths_of e) ∙ l)

  pub counts-first : {r : Counted} {left : Image} {work' : List ℕ} → counts.CountsFile file areas work r left work' → lengths_of left ≡ n → Left r left work'
  counts-first (counts.bad_file refusal v) l =
      subst (λ (Z : Image). CountsFirst file lent work (Err (uncounted.File refusal)) Z work) (sym (put-fronts n lent)) (bad_file refusal (sym verdict-same ∙ v))
  counts-first (counts.refused_image refusal v w) l =
      let e = image-is v in
      subst (λ (Z : Image). CountsFirst file lent work (Err (uncounted.Image refusal)) Z (work_after (taken file areas) work)) (sym (left-refused v))
      (subst (λ (X : Image). CountsFirst file lent work (Err (uncounted.Image refusal)) (filled lent (image_of_file file)) (work_after X work)) (sym e)
      (refused_image refusal (whole v) (sym (ap (verdict (length work)) e) ∙ w)))
  counts-first (counts.counted Y v w to) l =
      subst (λ (X : Image). (to : CollectedTo X Y) → verdict (length work) X ≡ accepted → Left (Ok (tally_of to.cells to.entries X)) (joined (thawed file areas) Y) (work_after X work)) (sym (image-is v))
      (λ to w.
      subst (λ (Z : Image). CountsFirst file lent work (Ok (tally_of to.cells to.entries (image_of_file file))) Z (work_after (image_of_file file) work)) (sym (left-counted v to l))
      (counted Y (whole v) w to))
      to w

-- the figures of a file that was read into areas of no more than those sizes
pub figured : {file : List ℕ} {lent : Image} {work : List ℕ} {r : Counted} {left : Image} {work' : List ℕ} → counts.CountsFile file lent work r left work' → Lent lent → Figured r
figured (counts.bad_file refusal v) s = tt
figured (counts.refused_image refusal v w) s = tt
figured {file} {lent} {work} (counts.counted Y v w to) s = file-within {work = work} (counts.counted Y v w to) s
