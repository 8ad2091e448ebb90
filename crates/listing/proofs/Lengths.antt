-- How long the lines of a listing can be: a space and ten digits for each word. Assumes nothing.
use Prim.Native.Nat.{ℕ, suc, ◌+◌, ◌*◌, ◌^◌, ◌≤◌, ◌<◌}
use mathlib.Core.Path.{sym, subst}
use mathlib.Core.Logic.{⊎_elim}
use mathlib.Core.List.{List, [], ◌∷◌, ◌++◌}
use native.Mathlib.Omega.{arith}
use lib.Dec.{leb}
use lib.ListN.{length, take, length-append, length-take, get_or-eq_default}
use lib.Seq.{get_or-take, take-length}
use borrow.Author.Tests.{leb-true, leb-false}
use Rattle.machine.specs.declared.Area.{Area}
use Rattle.machine.specs.declared.Area.TheVariants.{Heap, Stack, Control, Trail}
use Rattle.machine.specs.Layout.{Image, T, H, N, fixed, reg}
use Rattle.machine.proofs.Tests.{either}
use Rattle.freeze.specs.RoundTrips.{Words, WordImage}
use Rattle.text.specs.Line.{ascii, spaced, numbers, line}
use Rattle.text.specs.Puts.{Puts, PutsShort}
use Rattle.text.proofs.Decimals.{decimal-short}
use Rattle.listing.specs.Text.{area_lines, name_of}
use Rattle.listing.specs.Lists.{word_most}

word-short : (w : ℕ) → w < 2 ^ 32 → length (spaced w) ≤ word_most
unfolding spaced
word-short w h = omega (arith, decimal-short 9 w (omega arith))

numbers-short : (ws : List ℕ) → Words ws → length (numbers ws) ≤ word_most * length ws
unfolding numbers
numbers-short [] h = omega arith
numbers-short (w ∷ ws) h = omega (arith, length-append (spaced w) (numbers ws), word-short w (h 0), numbers-short ws (λ i. h (suc i)))

take_words : (k : ℕ) (ws : List ℕ) → Words ws → Words (take k ws)
take_words k ws h i =
    ⊎_elim
    (λ q. let l : suc i ≤ k = leb-true _ _ q in subst (λ (w : ℕ). w < 2 ^ 32) (sym (get_or-take k ws i 0 l)) (h i))
    (λ q.
    let l : k < suc i = leb-false _ _ q in
    subst (λ (w : ℕ). w < 2 ^ 32) (sym (get_or-eq_default (take k ws) 0 (omega (arith, length-take k ws)))) (omega arith))
    (either (leb (suc i) k))

pub line-short : (word : List ℕ) (k : ℕ) (ws : List ℕ) → Words ws → length (line word (take k ws)) ≤ length word + word_most * length ws + 1
unfolding line
line-short word k ws h =
    omega
    (arith, length-append word (numbers (take k ws) ++ ascii "\n"), length-append (numbers (take k ws)) (ascii "\n"), numbers-short (take k ws) (take_words k ws h), length-take k ws)

pub short-name : (area : Area) {output : List ℕ} {at r : ℕ} {left : List ℕ} → Puts output at (ascii " " ++ name_of area) r left → PutsShort 8 output at (ascii " " ++ name_of area) r left
short-name Heap w = record { puts = w; short = omega arith }
short-name Stack w = record { puts = w; short = omega arith }
short-name Control w = record { puts = w; short = omega arith }
short-name Trail w = record { puts = w; short = omega arith }

-- no text of the areas is longer, so that the programs' buffers hold every listing
pub areas-short : (X : Image) → WordImage X → length (area_lines X) ≤ 25 + word_most * (length X.control + length X.stack + length X.heap + length X.trail)
unfolding area_lines
areas-short X w =
    let control = line (ascii "control") (take (fixed + reg X N) X.control) in
    let stack = line (ascii "stack") X.stack in
    let heap = line (ascii "heap") (take (reg X H) X.heap) in
    let trail = line (ascii "trail") (take (reg X T) X.trail) in
    let whole : length stack ≤ 5 + word_most * length X.stack + 1 = subst (λ (l : List ℕ). length (line (ascii "stack") l) ≤ 5 + word_most * length X.stack + 1) (take-length X.stack) (line-short (ascii "stack") (length X.stack) X.stack w.stack) in
    omega (
      arith,
      length-append control (stack ++ (heap ++ trail)),
      length-append stack (heap ++ trail),
      length-append heap trail,
      line-short (ascii "control") (fixed + reg X N) X.control w.control,
      line-short (ascii "heap") (reg X H) X.heap w.heap,
      line-short (ascii "trail") (reg X T) X.trail w.trail,
    )
