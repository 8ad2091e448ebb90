-- The notes of a list of things become those of the list with one thing more where the thing's words gain its roles: a thing gives each
-- of its words one role, by the distance from the thing's start. Assumes nothing.
use Prim.Native.Nat.{ℕ, ◌+◌, ◌-◌}
use mathlib.Core.Path.{◌≡◌, refl, sym, subst}
use mathlib.Core.Logic.{◌⊎◌, inl, inr, ⊎_elim, ◌↔◌}
use mathlib.Core.Bool.{true}
use mathlib.Core.List.{List, ◌∷◌}
use native.Mathlib.Omega.{arith}
use native.Mathlib.Decide.{dec_le, dec_lt}
use borrow.Author.Tests.{eqb-true, leb-true}
use lib.ListN.{get_or}
use Rattle.machine.specs.Layout.{Image, place_of, fixed, frame_fixed}
use Rattle.machine.specs.Chains.{Thing, frame, point, index_of}
use Rattle.machine.specs.Roles.{Role, cell, CL, CE, own, gives, some, code_of}
use Rattle.machine.proofs.Tests.{true-false, and_left, or_cases, or_left, or_right}
use Rattle.machine.proofs.Layouts.{place-low}
use Rattle.machine.proofs.Things.{end_of, Holds, gives-holds, holds-gives, gives_one}
use Rattle.chains.specs.Notes.{Shows}
use Rattle.chains.specs.Noting.{Gains, frame_role, point_role}
use Rattle.chains.proofs.Shows.{shows-iff}
use Rattle.chains.proofs.Offsets.{point-field, point-cell, frame-cell}

-- the number of the role of each of a thing's words, by its distance from the start
abbrev pub role_of : Thing → ℕ → ℕ
role_of (frame e k limit) j = frame_role j
role_of (point b limit t h) j = point_role j

-- the thing's words gain its roles
abbrev pub Adds : Image → Thing → List ℕ → List ℕ → Type 0
Adds X x = Gains (λ j. role_of x (j - index_of x)) (index_of x) (end_of X x)

module _ (X : Image) (i : ℕ) where
  given : (r : Role) (x : Thing) → gives X i r x ≡ true → code_of r ≡ role_of x (i - index_of x)
  unfolding gives
  given cell (frame e k limit) g = sym (frame-cell (i - e) (omega (arith, leb-true (e + frame_fixed) i (and_left _ _ g))))
  given CL (frame e k limit) g = let o : i - e ≡ 0 = omega (arith, eqb-true i e g) in rw o
  given CE (frame e k limit) g = let o : i - e ≡ 1 = omega (arith, eqb-true i (e + 1) g) in rw o
  given (own f) (frame e k limit) g = true-false g refl
  given cell (point b limit t h) g = sym (point-cell (i - b) (omega (arith, leb-true (b + fixed) i (and_left _ _ g))))
  given CL (point b limit t h) g = true-false g refl
  given CE (point b limit t h) g = true-false g refl
  given (own f) (point b limit t h) g =
      let o : i - b ≡ place_of f = omega (arith, eqb-true i (b + place_of f) g) in
      rw (o, point-field (place_of f) (place-low f))

  holds : (x : Thing) → Holds X x i ⊎ (Holds X x i → ⊥)
  holds x =
      elim (dec_le (index_of x) i) [
        | no a ↦ inr (λ o. a o.from)
        | yes a ↦
            elim (dec_lt i (end_of X x)) [
              | no b ↦ inr (λ o. b o.below)
              | yes b ↦ inl (record { from = a; below = b })
            ]
      ]

  -- the set of a word's roles gains what the thing gives
  gives_more : (x : Thing) (things : List Thing) (r : Role) → gives X i r x ≡ true → (s : Role) → ((some (gives X i s) things ≡ true) ⊎ (s ≡ r)) ↔ (some (gives X i s) (x ∷ things) ≡ true)
  unfolding some
  gives_more x things r g s = (
    λ q. ⊎_elim (λ o. or_right (gives X i s x) _ o) (λ o. or_left _ _ (subst (λ (t : Role). gives X i t x ≡ true) (sym o) g)) q,
    λ q. ⊎_elim (λ o. inr (gives_one X i s r x x o g refl refl)) (λ o. inl o) (or_cases (gives X i s x) _ q),
  )

  gives_none : (x : Thing) (things : List Thing) → (Holds X x i → ⊥) → (s : Role) → (some (gives X i s) things ≡ true) ↔ (some (gives X i s) (x ∷ things) ≡ true)
  unfolding some
  gives_none x things n s =
      (λ q. or_right (gives X i s x) _ q, λ q. ⊎_elim (λ o. absurd (n (gives-holds X i s x o))) (λ o. o) (or_cases (gives X i s x) _ q))

  pub shown-more : (x : Thing) (things : List Thing) {notes notes' : List ℕ} → Adds X x notes notes' → Shows (λ (r : Role). some (gives X i r) things ≡ true) (get_or notes i 0) → Shows (λ (r : Role). some (gives X i r) (x ∷ things) ≡ true) (get_or notes' i 0)
  shown-more x things g h =
      elim (holds x) [
        | inl o ↦
            let m = holds-gives X i x o in
            shows-iff
            (gives_more x things m.0 m.1)
            ((g.hit i o.from o.below).gains (λ r. some (gives X i r) things) m.0 (given m.0 x m.1) h)
        | inr o ↦
            shows-iff
            (gives_none x things o)
            (subst (Shows (λ (r : Role). some (gives X i r) things ≡ true)) (sym (g.kept.outside i (λ a b. o (record { from = a; below = b })))) h)
      ]
