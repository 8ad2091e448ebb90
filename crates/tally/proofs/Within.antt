-- No sum wraps: the figures of an image are at most its sizes, a file's image has no more than the lent areas, and so many files of the
-- program's sizes stay far below 2 ^ 64. Assumes nothing.
use Rattle.std.specs.Prelude.{Ok, Err}
use Prim.Native.Nat.{ℕ, suc, ◌+◌, ◌≤◌, ◌<◌}
use mathlib.Core.Path.{◌≡◌, refl, sym}
use mathlib.Core.Bool.{Bool, not}
use mathlib.Core.List.{List, [], ◌∷◌}
use native.Mathlib.Omega.{arith}
use lib.ListN.{length, length-append, length-drop, length-take}
use Rattle.machine.specs.Layout.{Image, T, H, reg}
use Rattle.machine.specs.Chains.{walk}
use Rattle.machine.proofs.Lists.{In, here, there}
use Rattle.machine.proofs.Layouts.{stack-word}
use Rattle.machine.proofs.Below.{below-le}
use Rattle.machine.proofs.Accepted.{Accepted}
use Rattle.machine.proofs.Verdicts.{verdict-accepted}
use Rattle.freeze.specs.Kinds.{HEAP, TRAIL}
use Rattle.freeze.specs.Verdicts as files
use Rattle.freeze.specs.Thaw.{lengths_of, counts_in, image_in, heap_at, trail_at, front, filled, thaw_verdict}
use Rattle.freeze.proofs.WordLaws.{length-words}
use Rattle.freeze.proofs.ThawLaws.{within-each, thaws-accepted, thaws-filled}
use Rattle.listing.specs.Lists.{thawed, taken}
use Rattle.tally.specs.declared.Tally.{Tally}
use Rattle.tally.specs.Figures.{Figure, kept, dropped, entries_kept, entries_dropped, choice_points, points_in, deepest_in, deepest_of, count_of, tally_of}
use Rattle.tally.specs.Totals.{empty, plus, after, total_from, total, Fits, files_most, heap_cells, Lent, FromFile, Within, TotalFits}
use Rattle.tally.specs.Counts.{Counted, CountsFile, counted}
use Rattle.tally.proofs.Tagged.{tagged-most}
use Rattle.tally.proofs.Chains.{chain-inside}
use Rattle.tally.proofs.Points.{points-inside}
use Rattle.tally.proofs.Walking.{Alike, own-chain, all-points}
use Rattle.tally.proofs.Totals.{figure-by, figure-plus}

-- ---- the figures of an image

module _ (X : Image) (a : Accepted X) where
  alike : Alike X X.stack
  alike = record { same_length = refl; same = λ i r p e. sym (stack-word X i) }

  points-most : (points_in (walk X) ≤ length X.stack) × (deepest_in X (walk X) ≤ length X.stack)
  points-most = points-inside (all-points X a.linked X.stack alike)

  pub deepest-most : deepest_of X ≤ length X.stack
  unfolding deepest_of
  deepest-most = omega (arith, chain-inside (own-chain X a.linked X.stack alike), points-most.1)

  -- each is at most one of the three sizes
  pub count_most : (most : ℕ) → length X.heap ≤ most → length X.stack ≤ most → length X.trail ≤ most → (cells entries : ℕ → Bool) (f : Figure) → count_of cells entries X f ≤ most
  unfolding count_of
  count_most most h s t cells entries (kept tag) = omega (arith, tagged-most X.heap cells tag (reg X H), a.fits.heap)
  count_most most h s t cells entries (dropped tag) = omega (arith, tagged-most X.heap (λ x. not (cells x)) tag (reg X H), a.fits.heap)
  count_most most h s t cells entries entries_kept = omega (arith, below-le entries (reg X T), a.fits.trail)
  count_most most h s t cells entries entries_dropped = omega (arith, a.fits.trail)
  count_most most h s t cells entries choice_points = omega (arith, points-most.0)

-- ---- the image of a file

front-most : (area new : List ℕ) → length new ≤ length area → length (front area new) ≤ length area
front-most area new l = simp (length-append, length-drop) (omega arith)

pub record Sized (X lent : Image) : Type 0 where
  pub heap : length X.heap ≤ length lent.heap
  pub stack : length X.stack ≤ length lent.stack
  pub trail : length X.trail ≤ length lent.trail

pub taken-sized : (file : List ℕ) (lent : Image) → thaw_verdict lent file ≡ files.accepted → Sized (taken file lent) lent
unfolding filled image_in
taken-sized file lent ok =
    let n = counts_in file in
    let w = within-each n (lengths_of lent) (thaws-filled file lent n (thawed file lent) (thaws-accepted file lent n (thawed file lent) ok refl refl)).2.room in
    record {
      heap = front-most lent.heap (image_in n file).heap (omega (arith, length-words file HEAP (heap_at n) n.heap, w.heap));
      stack = omega (arith, length-take n.stack (thawed file lent).stack, w.stack);
      trail = front-most lent.trail (image_in n file).trail (omega (arith, length-words file TRAIL (trail_at n) n.trail, w.trail));
    }

-- ---- files of the program's sizes

pub within_none : Within 0 empty
within_none = record { counted = λ f. omega (arith, figure-by (λ g. 0) 0 f); deepest = omega arith }

pub file-within : {file : List ℕ} {lent : Image} {work : List ℕ} {tally : Tally} {left : Image} {work' : List ℕ} → CountsFile file lent work (Ok tally) left work' → Lent lent → Within 1 tally
unfolding tally_of
file-within {file} {lent} {work} (counted Y ok v to) l =
    let X = taken file lent in
    let a = (verdict-accepted (length work) X v).0 in
    let s = taken-sized file lent ok in
    record {
      counted = λ f.
          omega (
            arith,
            figure-by (count_of to.cells to.entries X) (deepest_of X) f,
            count_most X a heap_cells (omega (arith, s.heap, l.heap)) (omega (arith, s.stack, l.stack)) (omega (arith, s.trail, l.trail)) to.cells to.entries f,
          );
      deepest = omega (arith, deepest-most X a, s.stack, l.stack);
    }

pub within-fits : (k : ℕ) {a b : Tally} → k < files_most → Within k a → Within 1 b → Fits a b
within-fits k l a b f = omega (arith, a.counted f, b.counted f)

pub within-next : (k : ℕ) {a b : Tally} → Within k a → Within 1 b → Within (k + 1) (plus a b)
within-next k {a} {b} u v = record {
  counted = λ f. omega (arith, figure-plus f a b, u.counted f, v.counted f);
  deepest = omega (arith, u.deepest, v.deepest);
}

-- fewer files
pub within_more : (k n : ℕ) {a : Tally} → k ≤ n → Within k a → Within n a
within_more k n l a = record { counted = λ f. omega (arith, a.counted f); deepest = a.deepest }

within-after : (k : ℕ) {so_far : Tally} (file : Counted) → FromFile file → Within k so_far → Within (k + 1) (after so_far file)
within-after k (Ok tally) from w = within-next k w (file-within from.counts from.sizes)
within-after k (Err why) from w = within_more k (k + 1) (omega arith) w

within-from : (k : ℕ) (so_far : Tally) (files : List Counted) → ((file : Counted) → In file files → FromFile file) → Within k so_far → Within (k + length files) (total_from so_far files)
unfolding total_from
within-from k so_far [] each w = within_more k (k + 0) (omega arith) w
within-from k so_far (file ∷ files) each w =
    within_more (k + 1 + length files) (k + suc (length files)) (omega arith)
    (within-from (k + 1) (after so_far file) files (λ g m. each g (there m)) (within-after k file (each file (here refl)) w))

-- the invariant of the whole
pub total-within : (files : List Counted) → ((file : Counted) → In file files → FromFile file) → Within (length files) (total files)
total-within files each = within_more (0 + length files) (length files) (omega arith) (within-from 0 empty files each within_none)

pub total-fits : TotalFits
total-fits files l each f = (within_more (length files) files_most l (total-within files each)).counted f
