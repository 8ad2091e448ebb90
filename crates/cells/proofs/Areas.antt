-- The three areas under one number: none refuses where all are clean. One area of which the lowest place is in hand: it gives the refusal,
-- or gives way to the next. Assumes nothing.
use Rattle.std.specs.Prelude.{Some, None}
use Prim.Native.Nat.{ℕ, ◌<◌}
use mathlib.Core.Path.{◌≡◌, sym}
use mathlib.Core.Bool.{Bool, false}
use mathlib.Core.List.{List, [], ◌∷◌}
use Rattle.machine.specs.Refusals.{Where, Verdict, accepted, refused, scan, or_else, first_of}
use Rattle.machine.specs.Lowest.{Lowest}
use Rattle.machine.proofs.Lowest.{scan-lowest}
use Rattle.machine.proofs.Firsts.{scan-passes, all_first, else-assoc, first-given, first-skips}
use Rattle.cells.specs.Cells.{in_areas}

module _ (number : ℕ) (p : ℕ → Bool) (h : ℕ) (q : ℕ → Bool) (count : ℕ) (r : ℕ → Bool) (n : ℕ) where
  pub areas-pass : ((i : ℕ) → i < h → p i ≡ false) → ((i : ℕ) → i < count → q i ≡ false) → ((i : ℕ) → i < n → r i ≡ false) → first_of (in_areas number p h q count r n []) ≡ accepted
  unfolding in_areas
  areas-pass a b c = all_first _ (scan-passes p h _ a, (scan-passes q count _ b, (scan-passes r n _ c, tt)))

  -- what comes later is asked where they pass
  pub areas-then : (later : List Verdict) → first_of (in_areas number p h q count r n later) ≡ or_else (first_of (in_areas number p h q count r n [])) (first_of later)
  unfolding in_areas first_of or_else
  areas-then later = sym (simp else-assoc)

module _ (number : ℕ) (bad : ℕ → Bool) (n : ℕ) (place : ℕ → Where) (later : List Verdict) where
  pub finds : (i : ℕ) → Lowest bad n (Some i) → refused number (place i) ≡ first_of (scan bad n (λ j. refused number (place j)) ∷ later)
  finds i f = sym (first-given _ later (scan-lowest bad n (λ j. refused number (place j)) (Some i) f))

  pub passes : Lowest bad n None → first_of later ≡ first_of (scan bad n (λ j. refused number (place j)) ∷ later)
  passes f = sym (first-skips _ later (scan-lowest bad n (λ j. refused number (place j)) None f))
