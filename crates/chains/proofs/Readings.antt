-- What the code reads of the stack, as the image says it, and the test of a choice point. Assumes nothing.
use Prim.Native.Nat.{ℕ, ◌+◌}
use mathlib.Core.Path.{◌≡◌, refl, sym, ◌∙◌}
use mathlib.Core.Bool.{Bool, true, false}
use mathlib.Core.List.{List}
use lib.ListN.{get_or}
use Rattle.machine.specs.Layout.{Image, Field, place_of, at, link_place, size_at, link_at, field, word}
use Rattle.machine.specs.Chains.{point, sound}
use Rattle.machine.proofs.Tests.{true-false}
use Rattle.machine.proofs.Chains.{PointOk}
use Rattle.machine.proofs.Links.{sound-ok, ok-sound}

-- a field of the choice point at b
abbrev pub field_in : List ℕ → ℕ → Field → ℕ
field_in stack b f = get_or stack (b + place_of f) 0

module _ (X : Image) where
  pub read-field : (b : ℕ) (f : Field) → field_in X.stack b f ≡ at X b f
  unfolding field
  read-field b f = refl

  pub read-size : (f : ℕ) → get_or X.stack f 0 ≡ size_at X f
  unfolding word
  read-size f = refl

  pub read-link : (f : ℕ) → get_or X.stack (f + link_place) 0 ≡ link_at X f
  unfolding word
  read-link f = refl

-- what the test of a choice point says
module _ {X : Image} {b limit t h : ℕ} {r : Bool} (f : r ≡ sound X (point b limit t h)) where
  pub point-ok : r ≡ true → PointOk X b limit t h
  point-ok z = sound-ok X (point b limit t h) (sym f ∙ z)

  pub point-broken : r ≡ false → PointOk X b limit t h → ⊥
  point-broken z o = true-false (ok-sound X (point b limit t h) o) (sym f ∙ z)
