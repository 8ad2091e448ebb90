-- A walk reads control area and stack alone: two images that have both in common are walked alike, whatever their heaps and trails hold.
-- Assumes nothing.
use Prim.Native.Nat.{ℕ, zero, suc}
use Rattle.std.specs.Prelude.{Result}
use Rattle.std.proofs.lemmas.Result.{IfOk-weaker, IfErr-weaker}
use mathlib.Core.Path.{◌≡◌, refl, sym, ap, ◌∙◌, subst}
use mathlib.Core.Bool.{Bool, true}
use mathlib.Core.List.{List, [], ◌∷◌, ◌++◌}
use lib.ListN.{length}
use lib.Dec.{eqb}
use Rattle.machine.specs.Layout.{Image, L, E, B, T, H, none, reg, at, size_of, size_at, link_at, word}
use Rattle.machine.specs.Chains.{Thing, frame, point, unless, frames, fuel_of, points, walk, sound, index_of, or_fault, fault_of}
use Rattle.machine.specs.Roles.{Role, cell, CL, CE, own, gives, some, has}
use Rattle.chains.specs.Notes.{Shows, Walks}

module _ (control stack heap trail heap' trail' : List ℕ) where
  abbrev X : Image
  X = record { control = control; stack = stack; heap = heap; trail = trail }

  abbrev Y : Image
  Y = record { control = control; stack = stack; heap = heap'; trail = trail' }

  frames-same : (f e k limit : ℕ) → frames f X e k limit ≡ frames f Y e k limit
  unfolding frames word
  frames-same zero e k limit = refl
  frames-same (suc f) e k limit = ap (λ (xs : List Thing). unless (eqb e none) (frame e k limit ∷ xs)) (frames-same f (link_at X e) (size_of (size_at X e)) e)

  points-same : (f b limit t h : ℕ) → points f X b limit t h ≡ points f Y b limit t h
  unfolding points
  points-same zero b limit t h = refl
  points-same (suc f) b limit t h = λ i.
      unless (eqb b none) (point b limit t h ∷ (frames-same (fuel_of X) (at X b E) (size_of (at X b L)) b i ++ points-same f (at X b B) b (at X b T) (at X b H) i))

  walk_same : walk X ≡ walk Y
  unfolding walk
  walk_same = λ i.
      frames-same (fuel_of X) (reg X E) (size_of (reg X L)) (length stack) i
      ++ points-same (fuel_of X) (reg X B) (length stack) (reg X T) (reg X H) i

  sound-same : (x : Thing) → sound X x ≡ sound Y x
  unfolding sound
  sound-same (frame e k limit) = refl
  sound-same (point b limit t h) = refl

  faults-same : (xs : List Thing) → fault_of X xs ≡ fault_of Y xs
  unfolding fault_of
  faults-same [] = refl
  faults-same (x ∷ xs) = λ i. or_fault (sound-same x i) (index_of x) (faults-same xs i)

  gives-same : (i : ℕ) (r : Role) (x : Thing) → gives X i r x ≡ gives Y i r x
  unfolding gives
  gives-same i cell (frame e k limit) = refl
  gives-same i CL (frame e k limit) = refl
  gives-same i CE (frame e k limit) = refl
  gives-same i (own f) (frame e k limit) = refl
  gives-same i cell (point b limit t h) = refl
  gives-same i CL (point b limit t h) = refl
  gives-same i CE (point b limit t h) = refl
  gives-same i (own f) (point b limit t h) = refl

  has-same : (i : ℕ) (r : Role) → has X i r ≡ has Y i r
  unfolding has
  has-same i r = λ j. some (λ x. gives-same i r x j) (walk_same j)

  fault_same : fault_of X (walk X) ≡ fault_of Y (walk Y)
  fault_same = faults-same (walk X) ∙ ap (fault_of Y) walk_same

  shows-same : (i : ℕ) {note : ℕ} → Shows (λ (r : Role). has X i r ≡ true) note → Shows (λ (r : Role). has Y i r ≡ true) note
  shows-same i {note} = subst (λ (set : Role → Bool). Shows (λ (r : Role). set r ≡ true) note) (λ j r. has-same i r j)

  walks-same : {work : List ℕ} {notes : ℕ} {r : Result Unit ℕ} {work' : List ℕ} → Walks X work notes r work' → Walks Y work notes r work'
  walks-same {work} {notes} {r} {work'} w = record {
    noted = IfOk-weaker r _ _ (λ _ e. (sym fault_same ∙ e.0, λ i l. shows-same i (e.1 i l))) w.noted;
    stopped = IfErr-weaker r _ _ (λ i e. sym fault_same ∙ e) w.stopped;
    before = w.before;
    after = w.after;
    same = w.same;
  }

-- a walk of one image is that of each with its control area and stack
module _ (Y X : Image) (c : X.control ≡ Y.control) (s : X.stack ≡ Y.stack) where
  pub walks-any : {work : List ℕ} {notes : ℕ} {r : Result Unit ℕ} {work' : List ℕ} → Walks Y work notes r work' → Walks X work notes r work'
  walks-any {work} {notes} {r} {work'} w =
      subst (λ (Z : Image). Walks Z work notes r work')
      (λ i. record { control = sym c i; stack = sym s i; heap = X.heap; trail = X.trail })
      (walks-same Y.control Y.stack Y.heap Y.trail X.heap X.trail w)
