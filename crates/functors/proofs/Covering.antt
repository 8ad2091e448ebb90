-- Which first cells a word covers, tag by tag, as the counts or the flags in the work words say. Assumes nothing.
use Prim.Native.Nat.{ℕ, ◌+◌, ◌-◌, ◌%◌, ◌<◌}
use mathlib.Core.Path.{◌≡◌, refl, sym, ap, ap₂, ◌∙◌}
use mathlib.Core.Logic.{◌≢◌}
use mathlib.Core.Bool.{Bool, false, ◌&&◌, ◌||◌, not}
use mathlib.Core.List.{List}
use native.Mathlib.Omega.{arith}
use native.Mathlib.Decide.{ℕ_discrete, dec_lt}
use borrow.Author.Tests.{lt-ltb, le-ltb, ne_eqb}
use lib.ListN.{get_or}
use lib.Dec.{eqb}
use Rattle.cell.specs.Word.{VAR, STRUCT, LIST, CONST, value_of, tag_of, stack_base, in_heap, arity_of, extent}
use Rattle.cell.proofs.Words.{extent-heap-var, extent-stack-var, extent-struct, extent-list, extent-const}
use Rattle.machine.specs.Refusals.{some_of, covers_from}
use Rattle.machine.specs.Moved.{below}
use Rattle.machine.proofs.Tests.{and-unless}
use Rattle.machine.proofs.FirstCells.{covers-struct, covers-other}
use Rattle.functors.specs.Functors.{covers_in, Within, Named, Tallied, Owned, Off}
use Rattle.functors.proofs.Some.{some-none, some_one, some-two, some_below}

module _ (firsts : ℕ → Bool) (heap : List ℕ) (w : ℕ) where
  covers-run : tag_of w ≢ STRUCT → (n : ℕ) → extent heap w ≡ n → covers_in firsts heap w ≡ some_of firsts (value_of w) n
  unfolding covers_in
  covers-run t n e =
      let a = covers-other w t in
      let b : value_of w + extent heap w - covers_from w ≡ n = omega (arith, a) in
      ap₂ (λ (i m : ℕ). some_of firsts i m) a b

  pub covers-const : tag_of w ≡ CONST → covers_in firsts heap w ≡ false
  covers-const t = covers-run (λ e. omega arith) 0 (extent-const heap w t) ∙ some-none firsts (value_of w)

  -- v is where the word points to
  module _ {v : ℕ} (e : v ≡ value_of w) where
    pub covers-var : tag_of w ≡ VAR → covers_in firsts heap w ≡ (in_heap v && firsts v)
    covers-var t =
        elim (dec_lt v stack_base) [
          | yes l ↦ covers-run (λ z. omega arith) 1 (extent-heap-var heap w t (omega arith)) ∙ some_one firsts (value_of w) ∙ rw (lt-ltb v stack_base l) (ap firsts (sym e))
          | no l ↦ covers-run (λ z. omega arith) 0 (extent-stack-var heap w t (omega arith)) ∙ some-none firsts (value_of w) ∙ rw (le-ltb v stack_base (omega arith))
        ]

    pub covers-list : tag_of w ≡ LIST → covers_in firsts heap w ≡ (firsts v || firsts (v + 1))
    covers-list t = covers-run (λ z. omega arith) 2 (extent-list heap w t) ∙ some-two firsts (value_of w) ∙ ap (λ (i : ℕ). firsts i || firsts (i + 1)) (sym e)

    covers-part : tag_of w ≡ STRUCT → {n : ℕ} → n ≡ arity_of (get_or heap v 0) → covers_in firsts heap w ≡ some_of firsts (v + 1) n
    unfolding covers_in
    covers-part t {n} q =
        let a : covers_from w ≡ v + 1 = omega (arith, covers-struct w t) in
        let b : value_of w + extent heap w - covers_from w ≡ n = omega (arith, a, extent-struct heap w t, ap (λ (i : ℕ). arity_of (get_or heap i 0)) e) in
        ap₂ (λ (i m : ℕ). some_of firsts i m) a b

    pub covers-arguments : tag_of w ≡ STRUCT → {n : ℕ} → n ≡ arity_of (get_or heap v 0) → covers_in firsts heap w ≡ not (eqb (below firsts (v + 1)) (below firsts (v + 1 + n)))
    covers-arguments t {n} q = covers-part t q ∙ some_below firsts (v + 1) n

-- ---- what lies below h

module _ (h : ℕ) (heap : List ℕ) (w : ℕ) (i : Within h heap w) {v : ℕ} (e : v ≡ value_of w) where
  pub var-below : tag_of w ≡ VAR → v < stack_base → v < h
  var-below t l = i v (omega (arith, extent-heap-var heap w t (omega arith)))

  pub list-below : tag_of w ≡ LIST → v + 1 < h
  list-below t = i (v + 1) (omega (arith, extent-list heap w t))

  pub struct-below : tag_of w ≡ STRUCT → {n : ℕ} → n ≡ arity_of (get_or heap v 0) → v + n < h
  struct-below t {n} q = i (v + n) (omega (arith, extent-struct heap w t, ap (λ (x : ℕ). arity_of (get_or heap x 0)) e))

-- ---- where structures lie apart

module _ {firsts : ℕ → Bool} {heap : List ℕ} {h : ℕ} {work : List ℕ} {total : ℕ} (t : Tallied firsts heap h work total) (z : total ≡ 0) where
  -- a STRUCT covers no first cell
  pub alone-clear : (w : ℕ) → Owned firsts w → Within h heap w → tag_of w ≡ STRUCT → covers_in firsts heap w ≡ false
  alone-clear w o i e =
      covers-part firsts heap w refl e refl ∙ t.alone z (value_of w) (struct-below h heap w i refl e refl) (o e)

  off-clear : (x : ℕ) → x < h → get_or work x 0 ≡ 0 → firsts x ≡ false
  off-clear x l e = sym (t.odd.at x l) ∙ ne_eqb (get_or work x 0 % 2) 1 (λ q. omega (arith, e))

  -- and a word that covers no flag covers none
  pub off-covers : (w : ℕ) → Owned firsts w → Within h heap w → Named h w → Off work w → covers_in firsts heap w ≡ false
  off-covers w o i n f =
      elim (ℕ_discrete (tag_of w) CONST) [
        | yes e ↦ covers-const firsts heap w e
        | no a ↦
            elim (ℕ_discrete (tag_of w) VAR) [
              | yes e ↦ covers-var firsts heap w refl e ∙ and-unless (in_heap (value_of w)) _ (λ q. off-clear (value_of w) (n.var e) (f.var e))
              | no b ↦
                  elim (ℕ_discrete (tag_of w) LIST) [
                    | yes e ↦
                        covers-list firsts heap w refl e
                        ∙ rw (off-clear (value_of w) (omega (arith, n.list e)) (f.head e), off-clear (value_of w + 1) (n.list e) (f.tail e))
                    | no c ↦ alone-clear w o i (omega arith)
                  ]
            ]
      ]
