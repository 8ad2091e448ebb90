-- The walk of an accepted image, followed in a stack that has the same links: every chain of frames there is as long as the walk says, and
-- the choice points are those of the walk. The fuel is no limit, since each link falls. Assumes nothing.
use Prim.Native.Nat.{ℕ, zero, suc, ◌+◌, ◌≤◌}
use mathlib.Core.Path.{◌≡◌, refl, sym, ◌∙◌, subst}
use mathlib.Core.Logic.{◌≢◌, inl, inr}
use mathlib.Core.List.{List, ◌++◌}
use native.Mathlib.Omega.{arith}
use native.Mathlib.Decide.{ℕ_discrete}
use borrow.Author.Tests.{eq-eqb, ne_eqb}
use lib.ListN.{length, get_or}
use lib.Dec.{eqb}
use Rattle.machine.specs.Layout.{Image, Field, L, E, B, T, H, none, reg, at, field, size_of, size_at, link_at, link_place, place_of, word}
use Rattle.machine.specs.Roles.{Role, CE, own}
use Rattle.machine.specs.Chains.{Thing, fuel_of, frames, points, walk}
use Rattle.machine.proofs.Tests.{either}
use Rattle.machine.proofs.Layouts.{at-word}
use Rattle.machine.proofs.Chains.{Point, newest, older, View, of_control, of_point, parent, Is, link, in_point, Linked, point-bounds, view-ends}
use Rattle.machine.proofs.Moves.{stays, fate_of}
use Rattle.tally.specs.Figures.{points_in, chain_from, deepest_in}
use Rattle.tally.specs.Parts as parts
use Rattle.tally.specs.Parts.{link_in, Chain, Points}

-- a stack in which the fields of an image that no collection alters are the same
pub record Alike (X : Image) (stack : List ℕ) : Type 0 where
  pub same_length : length stack ≡ length X.stack
  pub same : (i : ℕ) (r : Role) → Is X i r → fate_of r ≡ stays → get_or stack i 0 ≡ word X i

-- a field as the word that it is
field-word : (words : List ℕ) (start : ℕ) (f : Field) → field words start f ≡ get_or words (start + place_of f) 0
unfolding field
field-word words start f = refl

-- frames hold no choice point
module _ (X : Image) where
  pub frames-skipped : (fuel e k limit : ℕ) (rest : List Thing)
      → (points_in (frames fuel X e k limit ++ rest) ≡ points_in rest) × (deepest_in X (frames fuel X e k limit ++ rest) ≡ deepest_in X rest)
  unfolding frames points_in deepest_in
  frames-skipped zero e k limit rest = (refl, refl)
  frames-skipped (suc fuel) e k limit rest =
      let s = frames-skipped fuel (link_at X e) (size_of (size_at X e)) e rest in
      elim (either (eqb e none)) [
        | inl q ↦ rw q (refl, refl)
        | inr q ↦ rw q (s.0, s.1)
      ]

module _ (X : Image) (linked : Linked X) (stack : List ℕ) (a : Alike X stack) where
  link-same : (e s : ℕ) → View X e s → link_in stack e ≡ link_at X e
  link-same e s v = a.same (e + link_place) CE (link e s v refl) refl

  chain-frames : (fuel e s k limit : ℕ) → (e ≢ none → View X e s × (e + 2 ≤ fuel)) → Chain stack e (length (frames fuel X e k limit))
  unfolding frames
  chain-frames zero e s k limit v =
      elim (ℕ_discrete e none) [
        | yes q ↦ parts.nothing q
        | no q ↦ absurd (omega (arith, (v q).1))
      ]
  chain-frames (suc fuel) e s k limit v =
      elim (ℕ_discrete e none) [
        | yes q ↦ rw (eq-eqb e none q) (parts.nothing q)
        | no q ↦
            let w = (v q).0 in
            let z = link-same e s w in
            let falls : link_at X e ≢ none → link_at X e + 2 ≤ e = λ n. omega (arith, linked.parent e s w n) in
            let rest = chain-frames fuel (link_at X e) (size_of (size_at X e)) (size_of (size_at X e)) e (λ n. (parent w n, omega (arith, falls n, (v q).1))) in
            rw (ne_eqb e none q) (parts.frame
            q
            (omega (arith, view-ends X linked e s w, a.same_length))
            (λ n. let f = falls (λ o. n (z ∙ o)) in omega (arith, z))
            (subst (λ (l : ℕ). Chain stack l (length (frames fuel X (link_at X e) (size_of (size_at X e)) e))) (sym z) rest))
      ]

  -- the chain from any frame of the image, or from none
  pub chain-from : (e s : ℕ) → (e ≢ none → View X e s) → Chain stack e (chain_from X e)
  unfolding chain_from
  chain-from e s v = chain-frames (fuel_of X) e s 0 0 (λ n. (v n, omega (arith, view-ends X linked e s (v n))))

  points-from : (fuel b limit t h : ℕ) → (b ≢ none → Point X b × (b + 2 ≤ fuel)) → Points stack b (points_in (points fuel X b limit t h)) (deepest_in X (points fuel X b limit t h))
  unfolding points points_in deepest_in
  points-from zero b limit t h p =
      elim (ℕ_discrete b none) [
        | yes q ↦ parts.nothing q
        | no q ↦ absurd (omega (arith, (p q).1))
      ]
  points-from (suc fuel) b limit t h p =
      elim (ℕ_discrete b none) [
        | yes q ↦ rw (eq-eqb b none q) (parts.nothing q)
        | no q ↦
            let w = (p q).0 in
            let y : field stack b B ≡ at X b B = field-word stack b B ∙ a.same (b + place_of B) (own B) (in_point b w B refl) refl ∙ sym (at-word X b B) in
            let z : field stack b E ≡ at X b E = field-word stack b E ∙ a.same (b + place_of E) (own E) (in_point b w E refl) refl ∙ sym (at-word X b E) in
            let falls : at X b B ≢ none → at X b B + 2 ≤ b = λ n. omega (arith, (linked.older b w n).ends) in
            let s = frames-skipped X (fuel_of X) (at X b E) (size_of (at X b L)) b (points fuel X (at X b B) b (at X b T) (at X b H)) in
            let rest = points-from fuel (at X b B) b (at X b T) (at X b H) (λ n. (older w n, omega (arith, falls n, (p q).1))) in
            rw (ne_eqb b none q, s.0, s.1) (parts.point
            q
            (omega (arith, (point-bounds X linked b w).ends, a.same_length))
            (λ n. let f = falls (λ o. n (y ∙ o)) in omega (arith, y))
            (subst (λ (e : ℕ). Chain stack e (chain_from X (at X b E))) (sym z) (chain-from (at X b E) (size_of (at X b L)) (λ n. of_point w n)))
            (subst (λ (c : ℕ). Points stack c (points_in (points fuel X (at X b B) b (at X b T) (at X b H))) (deepest_in X (points fuel X (at X b B) b (at X b T) (at X b H)))) (sym y) rest))
      ]

  -- the chains of the control area
  pub own-chain : Chain stack (reg X E) (chain_from X (reg X E))
  own-chain = chain-from (reg X E) (size_of (reg X L)) (λ n. of_control n)

  pub all-points : Points stack (reg X B) (points_in (walk X)) (deepest_in X (walk X))
  unfolding walk
  all-points =
      let s = frames-skipped X (fuel_of X) (reg X E) (size_of (reg X L)) (length X.stack) (points (fuel_of X) X (reg X B) (length X.stack) (reg X T) (reg X H)) in
      rw (s.0, s.1) (points-from (fuel_of X) (reg X B) (length X.stack) (reg X T) (reg X H) (λ n. (newest n, omega (arith, (linked.newest n).ends))))
