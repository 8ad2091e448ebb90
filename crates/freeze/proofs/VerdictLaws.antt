-- Laws of verdicts: a refusal hides what comes later, checks one after the other, and what a first verdict 'accepted' says of each.
-- Assumes nothing.
use Prim.Native.Nat.{ℕ}
use mathlib.Core.Path.{◌≡◌, refl, ap, ◌∙◌}
use mathlib.Core.Bool.{Bool, true, false}
use mathlib.Core.List.{List, [], ◌∷◌, ◌++◌}
use native.Mathlib.Omega.{arith}
use Rattle.freeze.specs.declared.FileRefusal.{FileRefusal}
use Rattle.freeze.specs.declared.FileRefusal.TheVariants.{Sizes, Registers, Cut, Kind, Room, After, Differ, Output}
use Rattle.freeze.specs.Verdicts.{FileVerdict, accepted, refused, verdict_of, gate, or_else, first_of, if_accepted}

-- a refusal hides what comes later, and nothing accepted is left to give
module _ (later : FileVerdict) where
  pub or_else-refusal : (r : FileRefusal) → or_else (verdict_of r) later ≡ verdict_of r
  unfolding or_else verdict_of
  or_else-refusal Sizes = refl
  or_else-refusal Registers = refl
  or_else-refusal (Cut at) = refl
  or_else-refusal (Kind at) = refl
  or_else-refusal Room = refl
  or_else-refusal (After at) = refl
  or_else-refusal Differ = refl
  or_else-refusal Output = refl

  pub or_else-accepted : {v : FileVerdict} → v ≡ accepted → or_else v later ≡ later
  unfolding or_else
  or_else-accepted e = rw e

pub if_accepted-refusal : {A : Type 0} (r : FileRefusal) (a b : A) → if_accepted (verdict_of r) a b ≡ b
unfolding if_accepted verdict_of
if_accepted-refusal Sizes a b = refl
if_accepted-refusal Registers a b = refl
if_accepted-refusal (Cut at) a b = refl
if_accepted-refusal (Kind at) a b = refl
if_accepted-refusal Room a b = refl
if_accepted-refusal (After at) a b = refl
if_accepted-refusal Differ a b = refl
if_accepted-refusal Output a b = refl

or_else-assoc : (u v w : FileVerdict) → or_else (or_else u v) w ≡ or_else u (or_else v w)
unfolding or_else
or_else-assoc accepted v w = refl
or_else-assoc (refused number offset) v w = refl

pub or_else-nothing : (v : FileVerdict) → or_else v accepted ≡ v
unfolding or_else
or_else-nothing accepted = refl
or_else-nothing (refused number offset) = refl

pub first_of-append : (vs ws : List FileVerdict) → first_of (vs ++ ws) ≡ or_else (first_of vs) (first_of ws)
unfolding first_of or_else
first_of-append [] ws = refl
first_of-append (v ∷ vs) ws = rw (first_of-append vs ws, or_else-assoc v (first_of vs) (first_of ws))

-- both of two checks have passed
pub both-passed : (v w : FileVerdict) → or_else v w ≡ accepted → (v ≡ accepted) × (w ≡ accepted)
unfolding or_else
both-passed accepted w e = (refl, e)
both-passed (refused number offset) w e = absurd (let z : ◌≡◌ {A = ℕ} 0 1 = cc in omega arith)

pub first_of-passed : (v : FileVerdict) (vs : List FileVerdict) → first_of (v ∷ vs) ≡ accepted → (v ≡ accepted) × (first_of vs ≡ accepted)
unfolding first_of
first_of-passed v vs e = both-passed v (first_of vs) e

pub refusal-refuses : (r : FileRefusal) → verdict_of r ≡ accepted → ⊥
unfolding verdict_of
refusal-refuses Sizes e = let z : ◌≡◌ {A = ℕ} 0 1 = cc in omega arith
refusal-refuses Registers e = let z : ◌≡◌ {A = ℕ} 0 1 = cc in omega arith
refusal-refuses (Cut at) e = let z : ◌≡◌ {A = ℕ} 0 1 = cc in omega arith
refusal-refuses (Kind at) e = let z : ◌≡◌ {A = ℕ} 0 1 = cc in omega arith
refusal-refuses Room e = let z : ◌≡◌ {A = ℕ} 0 1 = cc in omega arith
refusal-refuses (After at) e = let z : ◌≡◌ {A = ℕ} 0 1 = cc in omega arith
refusal-refuses Differ e = let z : ◌≡◌ {A = ℕ} 0 1 = cc in omega arith
refusal-refuses Output e = let z : ◌≡◌ {A = ℕ} 0 1 = cc in omega arith

pub gate-passed : (b : Bool) (r : FileRefusal) → gate b (verdict_of r) ≡ accepted → b ≡ true
gate-passed true r e = refl
gate-passed false r e = absurd (refusal-refuses r e)

-- the first of several: it is refused; it passes, and the others speak. The same for several in front of others.
module _ {v : FileVerdict} (vs : List FileVerdict) where
  pub first-refuses : (q : FileRefusal) → v ≡ verdict_of q → first_of (v ∷ vs) ≡ verdict_of q
  unfolding first_of
  first-refuses q e = ap (λ (x : FileVerdict). or_else x (first_of vs)) e ∙ or_else-refusal (first_of vs) q

  pub first_passes : v ≡ accepted → first_of (v ∷ vs) ≡ first_of vs
  unfolding first_of
  first_passes e = or_else-accepted (first_of vs) e

pub first-none : first_of [] ≡ accepted
unfolding first_of
first-none = refl

pub front-refuses : (vs ws : List FileVerdict) (q : FileRefusal) → first_of vs ≡ verdict_of q → first_of (vs ++ ws) ≡ verdict_of q
front-refuses vs ws q e = first_of-append vs ws ∙ ap (λ (x : FileVerdict). or_else x (first_of ws)) e ∙ or_else-refusal (first_of ws) q

pub front-passes : (vs ws : List FileVerdict) → first_of vs ≡ accepted → first_of (vs ++ ws) ≡ first_of ws
front-passes vs ws e = first_of-append vs ws ∙ or_else-accepted (first_of ws) e

pub gate-passes : {b : Bool} (v : FileVerdict) → b ≡ true → gate b v ≡ accepted
gate-passes v e = rw e

pub gate-fails : {b : Bool} (v : FileVerdict) → b ≡ false → gate b v ≡ v
gate-fails v e = rw e
