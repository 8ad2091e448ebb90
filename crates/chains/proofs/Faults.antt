-- The first fault from a thing on is that of the walk's list from there, so the two chains of the control area give that of the walk. The
-- fuel is no limit: each sound thing ends at or below the one before it, and the fuel is above where it must end. Assumes nothing.
use Prim.Native.Nat.{ℕ, zero, suc, ◌≤◌, ◌<◌}
use mathlib.Core.Path.{◌≡◌}
use mathlib.Core.Bool.{false}
use native.Mathlib.Omega.{arith}
use borrow.Author.Tests.{eq-eqb, ne_eqb}
use lib.ListN.{length}
use Rattle.machine.specs.Layout.{Image, L, E, B, T, H, reg, none, at, size_of, size_at, link_at}
use Rattle.machine.specs.Chains.{Thing, frame, point, frames, fuel_of, points, walk, sound, Fault, whole, broken, fault_of}
use Rattle.machine.proofs.Tests.{not_so}
use Rattle.machine.proofs.Lists.{fault-append}
use Rattle.machine.proofs.Links.{Ok, sound-ok, ok-sound}
use Rattle.chains.specs.Noting.{FaultFrom, ended, found, above, inside, older, first_frame, first_point}

module _ (X : Image) where
  unsound : (x : Thing) → (Ok X x → ⊥) → sound X x ≡ false
  unsound x f = not_so (sound X x) (λ q. f (sound-ok X x q))

  frames-fault : (fuel e k limit : ℕ) {f : Fault} → limit < fuel → FaultFrom X (frame e k limit) f → fault_of X (frames fuel X e k limit) ≡ f
  unfolding frames fault_of
  frames-fault zero e k limit l z = absurd (omega arith)
  frames-fault (suc fuel) e k limit l (ended q) = rw (eq-eqb e none q)
  frames-fault (suc fuel) e k limit l (found n b) = rw (ne_eqb e none n, unsound (frame e k limit) b)
  frames-fault (suc fuel) e k limit l (above n o z) = rw (ne_eqb e none n, ok-sound X (frame e k limit) o) (frames-fault fuel (link_at X e) (size_of (size_at X e)) e (omega arith) z)

  points-fault : (fuel b limit t h : ℕ) {f : Fault} → limit < fuel → limit ≤ length X.stack → FaultFrom X (point b limit t h) f → fault_of X (points fuel X b limit t h) ≡ f
  unfolding points fault_of
  points-fault zero b limit t h l m z = absurd (omega arith)
  points-fault (suc fuel) b limit t h l m (ended q) = rw (eq-eqb b none q)
  points-fault (suc fuel) b limit t h l m (found n u) = rw (ne_eqb b none n, unsound (point b limit t h) u)
  points-fault (suc fuel) b limit t h l m (inside n o z) = rw (ne_eqb b none n, ok-sound X (point b limit t h) o, fault-append X, frames-fault (fuel_of X) (at X b E) (size_of (at X b L)) b (omega (arith, o.ends)) z)
  points-fault (suc fuel) b limit t h l m (older n o w z) = rw (ne_eqb b none n, ok-sound X (point b limit t h) o, fault-append X, frames-fault (fuel_of X) (at X b E) (size_of (at X b L)) b (omega (arith, o.ends)) w) (points-fault fuel (at X b B) b (at X b T) (at X b H) (omega (arith, o.ends)) (omega (arith, o.ends)) z)

  -- ---- the walk

  pub frames-stop : {i : ℕ} → FaultFrom X (first_frame X) (broken i) → fault_of X (walk X) ≡ broken i
  unfolding walk
  frames-stop z = rw (fault-append X, frames-fault (fuel_of X) (reg X E) (size_of (reg X L)) (length X.stack) (omega arith) z)

  pub points-end : {f : Fault} → FaultFrom X (first_frame X) whole → FaultFrom X (first_point X) f → fault_of X (walk X) ≡ f
  unfolding walk
  points-end w z = rw (fault-append X, frames-fault (fuel_of X) (reg X E) (size_of (reg X L)) (length X.stack) (omega arith) w) (points-fault (fuel_of X) (reg X B) (length X.stack) (reg X T) (reg X H) (omega arith) (omega arith) z)
