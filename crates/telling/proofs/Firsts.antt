-- The first thing that has a word for a cell: the text speaks of it, and the notes of the roles show it. Assumes nothing.
use Prim.Native.Nat.{ℕ, ◌+◌, ◌-◌, ◌≤◌}
use mathlib.Core.Path.{◌≡◌, refl, ap, ◌∙◌}
use mathlib.Core.Logic.{inl, inr}
use mathlib.Core.Bool.{Bool, true, false, ◌||◌}
use mathlib.Core.List.{List, [], ◌∷◌}
use native.Mathlib.Omega.{arith}
use lib.Dec.{leb}
use lib.ListN.{drop}
use borrow.Author.Tests.{eq-eqb, leb-true, le-leb, ltb-true, lt-ltb}
use Rattle.std.proofs.lemmas.List.{get_or-drop}
use Rattle.machine.specs.Layout.{Image, N, place_of, fixed, at, frame_fixed, link_place}
use Rattle.machine.specs.Chains.{Thing, frame, point, walk}
use Rattle.machine.specs.Roles.{Role, cell, gives, some, has, code_of, note_at}
use Rattle.machine.specs.Answers.{pick_words}
use Rattle.machine.proofs.Tests.{true-false, either, or_cases, and-true, and_left, and_right}
use Rattle.machine.proofs.Lists.{In, here, there, in_some}
use Rattle.machine.proofs.Chains.{Linked, role-low}
use Rattle.machine.proofs.Roles.{has-is}
use Rattle.chains.specs.Notes.{Noted}
use Rattle.telling.specs.declared.owners.Owner.{Owner}
use Rattle.telling.specs.declared.owners.Owner.TheVariants.{Frame, Point}
use Rattle.telling.specs.Text.{member_text, owner_text}
use Rattle.telling.specs.Parts.{own_text, cells_from, last_field, Shown}

-- what begins where a thing does
abbrev pub owner_of : Thing → Owner
owner_of (frame e k limit) = Frame e
owner_of (point b limit t h) = Point b

member-own : (i : ℕ) (x : Thing) → member_text i x ≡ own_text i (owner_of x)
unfolding member_text own_text
member-own i (frame e k limit) = refl
member-own i (point b limit t h) = refl

module _ (X : Image) (i : ℕ) where
  pub record First (xs : List Thing) : Type 0 where
    pub thing : Thing
    pub listed : In thing xs
    pub has-cell : gives X i cell thing ≡ true
    pub told : owner_text X i xs ≡ own_text i (owner_of thing)

  pub first-owner : (xs : List Thing) → some (gives X i cell) xs ≡ true → First xs
  unfolding some owner_text
  first-owner [] e = true-false e refl
  first-owner (x ∷ xs) e =
      elim (either (gives X i cell x)) [
        | inl q ↦
            record {
              thing = x;
              listed = here refl;
              has-cell = q;
              told = ap (λ (b : Bool). pick_words b (member_text i x) (owner_text X i xs)) q ∙ member-own i x;
            }
        | inr q ↦ later q (first-owner xs (rest q e))
      ]
    where
      rest : {a b : Bool} → a ≡ false → (a || b) ≡ true → b ≡ true
      rest {a} {b} q o =
          elim (or_cases a b o) [
            | inl p ↦ true-false p q
            | inr p ↦ p
          ]

      later : gives X i cell x ≡ false → First xs → First (x ∷ xs)
      later q f = record {
        thing = f.thing;
        listed = there f.listed;
        has-cell = f.has-cell;
        told = ap (λ (b : Bool). pick_words b (member_text i x) (owner_text X i xs)) q ∙ f.told;
      }

  -- a thing's cells begin where its owner's do, and those up to the word i are all its cells
  pub gives-low : (x : Thing) → gives X i cell x ≡ true → cells_from (owner_of x) ≤ i
  unfolding gives
  gives-low (frame e k limit) g = leb-true (e + frame_fixed) i (and_left _ _ g)
  gives-low (point b limit t h) g = leb-true (b + fixed) i (and_left _ _ g)

  pub gives-before : (x : Thing) → gives X i cell x ≡ true → (j : ℕ) → cells_from (owner_of x) ≤ j → j ≤ i → gives X j cell x ≡ true
  unfolding gives
  gives-before (frame e k limit) g j l h = let z = ltb-true i (e + frame_fixed + k) (and_right (leb (e + frame_fixed) i) _ g) in and-true _ _ (le-leb _ _ l) (lt-ltb j (e + frame_fixed + k) (omega arith))
  gives-before (point b limit t h') g j l h = let z = ltb-true i (b + fixed + at X b N) (and_right (leb (b + fixed) i) _ g) in and-true _ _ (le-leb _ _ l) (lt-ltb j (b + fixed + at X b N) (omega arith))

gives-last : (X : Image) (x : Thing) → gives X (cells_from (owner_of x) - 1) (last_field (owner_of x)) x ≡ true
unfolding gives
gives-last X (frame e k limit) = eq-eqb (e + frame_fixed - 1) (e + link_place) (omega arith)
gives-last X (point b limit t h) = eq-eqb (b + fixed - 1) (b + place_of N) (omega arith)

module _ {X : Image} (k : Linked X) {work : List ℕ} {notes : ℕ} (n : Noted X work notes) where
  -- what a listed thing gives is noted
  given-noted : {x : Thing} → In x (walk X) → (j : ℕ) (r : Role) → gives X j r x ≡ true → note_at work notes j ≡ code_of r
  unfolding has
  given-noted m j r g =
      let h : has X j r ≡ true = in_some (gives X j r) (walk X) m g in
      (n.role j (role-low X k j r (has-is X j r h)) r).1 h

  pub first-shown : (i : ℕ) (f : First X i (walk X)) → Shown (drop notes work) i (owner_of f.thing)
  first-shown i f = record {
    low = gives-low X i f.thing f.has-cell;
    last = get_or-drop notes work _ 0 ∙ given-noted f.listed _ _ (gives-last X f.thing);
    cells = λ j l h. get_or-drop notes work j 0 ∙ given-noted f.listed j cell (gives-before X i f.thing f.has-cell j l h);
  }
