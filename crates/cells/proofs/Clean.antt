-- An area of which no index is marked or wrong: its indices one after the other, all of them by a test, and by a count of faults. Assumes
-- nothing.
use Prim.Native.Nat.{ℕ, ◌+◌, ◌*◌, ◌≤◌}
use mathlib.Core.Path.{◌≡◌, refl, ap}
use mathlib.Core.Logic.{◌↔◌}
use mathlib.Core.Bool.{Bool, true, false, not}
use native.Mathlib.Omega.{arith}
use borrow.Author.Tests.{not-true}
use borrow.Author.Count.{below_more}
use mir.Val.{bool_byte}
use Rattle.machine.proofs.Tests.{and_left, and_right}
use Rattle.cells.specs.Cells.{clean, Clean, Every}

module _ {marks wrongs : ℕ → Bool} {i : ℕ} (c : Clean marks wrongs i) where
  clean-more : marks i ≡ false → wrongs i ≡ false → Clean marks wrongs (i + 1)
  clean-more a b = record {
    unmarked = below_more _ _ c.unmarked a;
    well = below_more _ _ c.well b;
  }

  clean_end : {n : ℕ} → n ≤ i → Clean marks wrongs n
  clean_end {n} l = record {
    unmarked = λ j m. c.unmarked j (omega arith);
    well = λ j m. c.well j (omega arith);
  }

-- each has passed
pub every-clean : (marks wrongs : ℕ → Bool) (n : ℕ) {r : Bool} → Every (clean marks wrongs) n r → r ≡ true → Clean marks wrongs n
every-clean marks wrongs n {r} h e = let all = rw e at h in record {
  unmarked = λ i l. not-true (marks i) (and_left (not (marks i)) _ (all i l));
  well = λ i l. not-true (wrongs i) (and_right (not (marks i)) _ (all i l));
}

-- faults are counted, an index's with the rest: there are none exactly where all are clean
pub count-more : {marks wrongs : ℕ → Bool} {i : ℕ} (count : ℕ) {far bits : ℕ} → (count ≤ 2 * i) × ((count ≡ 0) ↔ Clean marks wrongs i) → far ≡ bool_byte (wrongs i) → bits ≡ bool_byte (marks i) → (count + (far + bits) ≤ 2 * (i + 1)) × ((count + (far + bits) ≡ 0) ↔ Clean marks wrongs (i + 1))
count-more {marks} {wrongs} {i} count so f b = (
  omega (arith, so.0, f, b, low (wrongs i), low (marks i)),
  (
    λ e. clean-more (so.1.0 (omega arith)) (none (marks i) (omega (arith, b))) (none (wrongs i) (omega (arith, f))),
    λ c. omega (arith, so.1.1 (clean_end c (omega arith)), f, b, ap bool_byte (c.well i (omega arith)), ap bool_byte (c.unmarked i (omega arith))),
  ),
)
  where
    low : (x : Bool) → bool_byte x ≤ 1
    low true = omega arith
    low false = omega arith

    none : (x : Bool) → bool_byte x ≡ 0 → x ≡ false
    none true e = absurd (omega arith)
    none false e = refl
