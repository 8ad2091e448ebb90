-- The promise of `count_file` fixes everything: its answer, the areas and the work words. The sets of a collection are fixed below H and
-- below T, and the figures read them nowhere else. Assumes nothing.
use Rattle.std.specs.Prelude.{Ok, Err}
use Prim.Native.Nat.{ℕ, ◌-◌, ◌<◌}
use mathlib.Core.Path.{◌≡◌, refl, sym, ap, ◌∙◌}
use mathlib.Core.Bool.{Bool, true, false, ◌&&◌, not}
use mathlib.Core.List.{List}
use native.Mathlib.Omega.{arith}
use lib.ListN.{length, get_or}
use lib.Dec.{eqb}
use Rattle.machine.specs.declared.Refusal.{Refusal}
use Rattle.machine.specs.Layout.{Image, T, H, reg}
use Rattle.machine.specs.Moved.{below, CollectedTo}
use Rattle.machine.proofs.Below.{below-same}
use Rattle.machine.proofs.Injective.{verdict_of-injective, refusal-refuses}
use Rattle.machine.proofs.Unique.{one-cells, one-entries, one-image}
use Rattle.machine.proofs.Verdicts.{verdict-accepted}
use Rattle.freeze.specs.declared.FileRefusal.{FileRefusal}
use Rattle.freeze.specs.declared.FileRefusal.TheVariants.{Sizes, Registers, Cut, Kind, Room, After, Differ, Output}
use Rattle.freeze.specs.Verdicts as files
use Rattle.freeze.proofs.VerdictLaws as file-laws
use Rattle.listing.specs.Lists.{thawed, taken, joined}
use Rattle.tally.specs.declared.Uncounted.TheVariants as uncounted
use Rattle.tally.specs.Figures.{Tag, Figure, kept, dropped, entries_kept, entries_dropped, choice_points, has_tag, tagged, tally_by, count_of, deepest_of, tally_of}
use Rattle.tally.specs.Counts.{Counted, CountsFile, bad_file, refused_image, counted}

-- ---- a number and an offset name one refusal of a file

abbrev pick_refusal : Bool → FileRefusal → FileRefusal → FileRefusal
pick_refusal true q r = q
pick_refusal false q r = r

abbrev file_refusal : files.FileVerdict → FileRefusal
file_refusal files.accepted = Sizes
file_refusal (files.refused number offset) =
    pick_refusal (eqb number 1) Sizes
    (pick_refusal (eqb number 2) Registers
    (pick_refusal (eqb number 10) (Cut offset)
    (pick_refusal (eqb number 11) (Kind offset)
    (pick_refusal (eqb number 12) Room (pick_refusal (eqb number 13) (After offset) (pick_refusal (eqb number 14) Differ Output))))))

file-inverse : (q : FileRefusal) → file_refusal (files.verdict_of q) ≡ q
unfolding files.verdict_of
file-inverse Sizes = refl
file-inverse Registers = refl
file-inverse (Cut at) = refl
file-inverse (Kind at) = refl
file-inverse Room = refl
file-inverse (After at) = refl
file-inverse Differ = refl
file-inverse Output = refl

one-file-refusal : (q r : FileRefusal) → files.verdict_of q ≡ files.verdict_of r → q ≡ r
one-file-refusal q r e = sym (file-inverse q) ∙ ap file_refusal e ∙ file-inverse r

-- ---- the figures of an image are fixed

module _ {X Y Z : Image} (c : CollectedTo X Y) (d : CollectedTo X Z) where
  tagged-same : (set set' : ℕ → Bool) → ((x : ℕ) → x < reg X H → set x ≡ set' x) → (tag : Tag) → tagged X.heap set tag (reg X H) ≡ tagged X.heap set' tag (reg X H)
  unfolding tagged
  tagged-same set set' e tag =
      below-same
      (λ x. set x && has_tag tag (get_or X.heap x 0))
      (λ x. set' x && has_tag tag (get_or X.heap x 0))
      (reg X H)
      (λ x l. ap (λ (b : Bool). b && has_tag tag (get_or X.heap x 0)) (e x l))
      (reg X H)
      (omega arith)

  entries-same : below c.entries (reg X T) ≡ below d.entries (reg X T)
  entries-same = below-same c.entries d.entries (reg X T) (one-entries c d) (reg X T) (omega arith)

  count_same : (f : Figure) → count_of c.cells c.entries X f ≡ count_of d.cells d.entries X f
  unfolding count_of
  count_same (kept tag) = tagged-same c.cells d.cells (one-cells c d) tag
  count_same (dropped tag) = tagged-same (λ x. not (c.cells x)) (λ x. not (d.cells x)) (λ x l. ap not (one-cells c d x l)) tag
  count_same entries_kept = entries-same
  count_same entries_dropped = ap (λ (n : ℕ). reg X T - n) entries-same
  count_same choice_points = refl

  pub one-tally : tally_of c.cells c.entries X ≡ tally_of d.cells d.entries X
  unfolding tally_of
  one-tally = λ i. tally_by (λ f. count_same f i) (deepest_of X)

-- ---- one answer

module _ {file : List ℕ} {lent : Image} {work : List ℕ} where
  pub one-count : {r r' : Counted} {left left' : Image} {work₁ work₂ : List ℕ} → CountsFile file lent work r left work₁ → CountsFile file lent work r' left' work₂
      → (r ≡ r') × (left ≡ left') × (work₁ ≡ work₂)
  one-count (bad_file q e) (bad_file q' e') = (ap (λ (q : FileRefusal). Err (uncounted.File q)) (one-file-refusal q q' (sym e ∙ e')), refl, refl)
  one-count (bad_file q e) (refused_image q' e' v') = absurd (file-laws.refusal-refuses q (sym e ∙ e'))
  one-count (bad_file q e) (counted Y' e' v' to') = absurd (file-laws.refusal-refuses q (sym e ∙ e'))
  one-count (refused_image q e v) (bad_file q' e') = absurd (file-laws.refusal-refuses q' (sym e' ∙ e))
  one-count (refused_image q e v) (refused_image q' e' v') = (ap (λ (q : Refusal). Err (uncounted.Image q)) (verdict_of-injective q q' (sym v ∙ v')), refl, refl)
  one-count (refused_image q e v) (counted Y' e' v' to') = absurd (refusal-refuses q (sym v ∙ v'))
  one-count (counted Y e v to) (bad_file q' e') = absurd (file-laws.refusal-refuses q' (sym e' ∙ e))
  one-count (counted Y e v to) (refused_image q' e' v') = absurd (refusal-refuses q' (sym v' ∙ v))
  one-count (counted Y e v to) (counted Y' e' v' to') = (
    ap Ok (one-tally to to'),
    ap (joined (thawed file lent)) (one-image to to' (verdict-accepted (length work) (taken file lent) v).0),
    refl,
  )
