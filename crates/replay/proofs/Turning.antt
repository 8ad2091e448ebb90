-- The loop over a schedule: what the calls from the one at i on do is, after the calls before them, what all of them do. Assumes nothing.
use Rattle.std.specs.Prelude.{Result, Ok, Err}
use Prim.Native.Nat.{ℕ, ◌+◌, ◌≤◌, ◌<◌}
use mathlib.Core.Path.{◌≡◌}
use mathlib.Core.Bool.{Bool, true, false}
use mathlib.Core.List.{List}
use native.Mathlib.Numerals.{add-one}
use native.Mathlib.Omega.{arith}
use lib.ListN.{length, drop, get_or, drop_of_length-le}
use lib.Seq.{drop-cons}
use Rattle.machine.specs.Layout.{Image}
use Rattle.replay.specs.Replays.{Calls, Replays, finished, granted, refused}

pub record Replaying (calls : List ℕ) (X₀ : Image) (work₀ : List ℕ) (i : ℕ) (X : Image) (work : List ℕ) : Type 0 where
  pub within : i ≤ length calls
  pub rest : {r : Result (Unit {0}) ℕ} {Z : Image} {last : List ℕ} → Replays i X work (drop i calls) r Z last → Replays 0 X₀ work₀ calls r Z last

pub replaying-none : (calls : List ℕ) {X : Image} {work : List ℕ} → Replaying calls X work 0 X work
replaying-none calls = record { within = omega arith; rest = λ t. t }

module _ {calls : List ℕ} {X₀ X : Image} {work₀ work : List ℕ} {i : ℕ} (p : Replaying calls X₀ work₀ i X work) where
  pub replaying-end : length calls ≤ i → Replays 0 X₀ work₀ calls (Ok tt) X work
  replaying-end l = p.rest (rw (drop_of_length-le calls l) finished)

  module _ (l : i < length calls) {Y : Image} {work' : List ℕ} {g : Bool} (c : Calls (get_or calls i 0) X work g Y work') where
    pub replaying-more : g ≡ true → Replaying calls X₀ work₀ (i + 1) Y work'
    replaying-more e = record {
      within = omega arith;
      rest = λ t. p.rest (rw (drop-cons calls i 0 l) (granted (rw e at c) (rw add-one at t)));
    }

    pub replaying-stop : g ≡ false → Replays 0 X₀ work₀ calls (Err i) Y work'
    replaying-stop e = p.rest (rw (drop-cons calls i 0 l) (refused (rw e at c)))
