-- Cells by tag, before and after a collection: it keeps every tag, a cell is kept or dropped, and the four tags are all there are. Assumes
-- nothing.
use Prim.Native.Nat.{ℕ, zero, suc, ◌+◌, ◌<◌}
use mathlib.Core.Path.{◌≡◌, refl, ap, ◌∙◌}
use mathlib.Core.Logic.{inl, inr}
use mathlib.Core.Bool.{Bool, ◌&&◌, not}
use mathlib.Core.List.{List}
use native.Mathlib.Omega.{arith}
use native.Mathlib.Decide.{ℕ_discrete}
use lib.ListN.{get_or}
use lib.Dec.{eqb}
use Rattle.cell.specs.Word.{pick, VAR, STRUCT, LIST, CONST, tag_of}
use Rattle.machine.specs.Layout.{Image, H, reg}
use Rattle.machine.specs.Moved.{below}
use Rattle.machine.proofs.Tests.{either}
use Rattle.machine.proofs.Words.{move-tag}
use Rattle.machine.proofs.Below.{below-same, both, below-below}
use Rattle.machine.proofs.Moves.{Reads}
use Rattle.tally.specs.Figures.{Tag, number_of, has_tag, tagged}
use Rattle.tally.specs.Totals.{of_all}
use Rattle.tally.specs.Parts.{in_heap}

-- members of a set that are in another and that are not
pub below_split : (part set : ℕ → Bool) (n : ℕ) → below (λ x. part x && set x) n + below (λ x. not (part x) && set x) n ≡ below set n
unfolding below
below_split part set zero = refl
below_split part set (suc n) =
    let e = below_split part set n in
    elim (either (part n)) [
      | inl q ↦ rw q (omega (arith, e))
      | inr q ↦ rw q (omega (arith, e))
    ]

pub tagged-split : (heap : List ℕ) (set : ℕ → Bool) (tag : Tag) (n : ℕ) → tagged heap set tag n + tagged heap (λ x. not (set x)) tag n ≡ in_heap heap n tag
unfolding tagged
tagged-split heap set tag n = below_split set (λ x. has_tag tag (get_or heap x 0)) n

-- each word has one of the four tags
one_tag : (t : ℕ) → t < 4 → pick (eqb t VAR) 1 0 + pick (eqb t STRUCT) 1 0 + pick (eqb t LIST) 1 0 + pick (eqb t CONST) 1 0 ≡ 1
one_tag t l =
    elim (ℕ_discrete t VAR) [
      | yes q ↦ rw q refl
      | no a ↦
          elim (ℕ_discrete t STRUCT) [
            | yes q ↦ rw q refl
            | no b ↦
                elim (ℕ_discrete t LIST) [
                  | yes q ↦ rw q refl
                  | no c ↦ let q : t ≡ CONST = omega arith in rw q refl
                ]
          ]
    ]

pub tags-together : (heap : List ℕ) (set : ℕ → Bool) (n : ℕ) → of_all (λ tag. tagged heap set tag n) ≡ below set n
unfolding tagged below
tags-together heap set zero = refl
tags-together heap set (suc n) =
    let e = tags-together heap set n in
    elim (either (set n)) [
      | inl q ↦ rw q (omega (arith, e, one_tag (tag_of (get_or heap n 0)) (omega arith)))
      | inr q ↦ rw q (omega (arith, e))
    ]

-- the cells of the heap after a collection are the kept ones, with their tags
module _ (cells entries : ℕ → Bool) (X Y : Image) (r : Reads cells entries X Y) where
  pub kept-tags : (tag : Tag) → in_heap Y.heap (below cells (reg X H)) tag ≡ tagged X.heap cells tag (reg X H)
  unfolding tagged both
  kept-tags tag =
      below-below cells (λ j. has_tag tag (get_or Y.heap j 0)) (reg X H)
      ∙ below-same
      (λ x. cells x && has_tag tag (get_or Y.heap (below cells x) 0))
      (λ x. cells x && has_tag tag (get_or X.heap x 0))
      (reg X H)
      same
      (reg X H)
      (omega arith)
    where
      same : (x : ℕ) → x < reg X H → (cells x && has_tag tag (get_or Y.heap (below cells x) 0)) ≡ (cells x && has_tag tag (get_or X.heap x 0))
      same x l =
          elim (either (cells x)) [
            | inl q ↦
                let t : tag_of (get_or Y.heap (below cells x) 0) ≡ tag_of (get_or X.heap x 0) = ap tag_of (r.heap x l q) ∙ move-tag (below cells) (get_or X.heap x 0) in
                ap (λ (n : ℕ). cells x && eqb n (number_of tag)) t
            | inr q ↦ rw q refl
          ]
