-- A work word after one is added (its cell is met), two (a level begins) or four times a cell (the entry): which of its parts change. Assumes nothing.
use Prim.Native.Nat.{ℕ, ◌+◌, ◌*◌, ◌/◌, ◌%◌}
use mathlib.Core.Path.{◌≡◌, ap}
use native.Mathlib.Omega.{arith}
use Rattle.queue.specs.Filled.{met_bit, level_bit, entry_of}

module _ (w : ℕ) where
  pub plus_one : met_bit w ≡ 0 → (met_bit (w + 1) ≡ 1) × (level_bit (w + 1) ≡ level_bit w) × (entry_of (w + 1) ≡ entry_of w)
  plus_one e =
      let half : (w + 1) / 2 ≡ w / 2 = omega arith in
      (omega arith, ap (λ (n : ℕ). n % 2) half, omega arith)

  pub plus-two : level_bit w ≡ 0 → (met_bit (w + 2) ≡ met_bit w) × (level_bit (w + 2) ≡ 1) × (entry_of (w + 2) ≡ entry_of w)
  plus-two e = omega arith

  pub plus-entry : (x : ℕ) → (met_bit (w + x * 4) ≡ met_bit w) × (level_bit (w + x * 4) ≡ level_bit w) × (entry_of (w + x * 4) ≡ entry_of w + x)
  plus-entry x = omega arith
