-- Marks become counts one after the other, in place; what a count says of its cell. Assumes nothing.
use Prim.Native.Nat.{ℕ, ◌+◌, ◌*◌, ◌/◌, ◌%◌, ◌≤◌, ◌<◌}
use mathlib.Core.Path.{◌≡◌, sym, ap, ◌∙◌}
use mathlib.Core.Logic.{inl, inr}
use mathlib.Core.Bool.{Bool}
use mathlib.Core.List.{List, ◌++◌}
use native.Mathlib.Omega.{arith}
use borrow.Author.Tests.{eq-eqb, ne_eqb}
use lib.ListN.{length, get_or, take, drop, set, length-append, length-take, length-drop, get_or-append}
use lib.Seq.{get_or-take, drop-append_seam}
use lib.Dec.{ltb, eqb}
use Rattle.cell.specs.Word.{pick}
use Rattle.machine.specs.Layout.{heap_most}
use Rattle.machine.specs.Moved.{below}
use Rattle.machine.proofs.Tests.{either}
use Rattle.machine.proofs.Below.{below-zero, below-le, below_step, below-same}
use Rattle.machine.proofs.InPlace.{InPlace, in-place-none, in-place-more}
use Rattle.counts.specs.Counts.{marked_in, Counting, Counted, Low}

-- the word y becomes its count
abbrev Becomes : List ℕ → ℕ → ℕ → ℕ → Type 0
Becomes marks y w v = v ≡ below (marked_in marks) y * 2 + pick (marked_in marks y) 1 0

-- the turn x of `count`
pub record Turn (marks work : List ℕ) (d x : ℕ) : Type 0 where
  pub total : d ≡ below (marked_in marks) x
  pub words : InPlace (Becomes marks) marks work x

pub turn-none : (marks : List ℕ) → Turn marks marks 0 0
turn-none marks = record { total = sym (below-zero (marked_in marks)); words = in-place-none (Becomes marks) marks }

pub turn_more : {marks work : List ℕ} {d x : ℕ} → Turn marks work d x → x < length marks → (k : ℕ) → k ≡ pick (marked_in marks x) 1 0 → Turn marks (set work x (d * 2 + k)) (d + k) (x + 1)
turn_more {marks} {work} {d} {x} t l k e = record {
  total = omega (arith, t.total, below_step (marked_in marks) x);
  words = in-place-more (Becomes marks) t.words l (d * 2 + k) (omega (arith, t.total));
}

-- the words below `top` are counts, so those of the whole are
pub turn_end : {marks words : List ℕ} {d top : ℕ} → Turn (take top marks) words d top → top ≤ length marks → Counted marks top (words ++ drop top marks) d
turn_end {marks} {words} {top = top} t l =
    let long : length words ≡ top = omega (arith, t.words.same, length-take top marks) in
    let agree : (x : ℕ) → x < top → marked_in (take top marks) x ≡ marked_in marks x = λ x h. ap (ltb 0) (get_or-take top marks x 0 h) in
    let counts : (x : ℕ) → x ≤ top → below (marked_in (take top marks)) x ≡ below (marked_in marks) x = below-same _ _ top agree in
    record {
      counting = record {
        at = λ y m. get_or-append words (drop top marks) 0 y (omega arith) ∙ (rw (counts y (omega arith), agree y m) at (t.words.done y m (omega (arith, length-take top marks))));
      };
      total = t.total ∙ counts top (omega arith);
      rest = rw (← long) (drop-append_seam words (drop (length words) marks));
      same = simp (length-append, length-drop) (omega arith);
    }

-- counts of a set are low
pub counting-low : {cells : ℕ → Bool} {top : ℕ} {work : List ℕ} → Counting cells top work → top ≤ heap_most → top ≤ length work → Low top work
counting-low {cells} {top} {work} c m l = record {
  most = m;
  inside = l;
  words = λ x h.
      elim (either (cells x)) [
        | inl e ↦ omega (arith, rw e at (c.at x h), below-le cells x)
        | inr e ↦ omega (arith, rw e at (c.at x h), below-le cells x)
      ];
}

-- the half of a count
pub half : {cells : ℕ → Bool} {top : ℕ} {work : List ℕ} → Counting cells top work → (x : ℕ) → x < top → get_or work x 0 / 2 ≡ below cells x
half {cells} {top} {work} c x h =
    elim (either (cells x)) [
      | inl e ↦ omega (arith, rw e at (c.at x h))
      | inr e ↦ omega (arith, rw e at (c.at x h))
    ]

-- and its last bit, which says whether the cell is kept
pub odd-cell : {cells : ℕ → Bool} {top : ℕ} {work : List ℕ} → Counting cells top work → (x : ℕ) → x < top → eqb (get_or work x 0 % 2) 1 ≡ cells x
odd-cell {cells} {top} {work} c x h =
    elim (either (cells x)) [
      | inl e ↦ eq-eqb (get_or work x 0 % 2) 1 (omega (arith, rw e at (c.at x h))) ∙ sym e
      | inr e ↦ ne_eqb (get_or work x 0 % 2) 1 (λ q. omega (arith, rw e at (c.at x h))) ∙ sym e
    ]
