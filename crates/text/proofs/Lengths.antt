-- How long a number after a space can be. Assumes nothing.
use Prim.Native.Nat.{ℕ, ◌^◌, ◌≤◌, ◌<◌}
use native.Mathlib.Omega.{arith}
use lib.ListN.{length}
use Rattle.text.specs.Line.{spaced}
use Rattle.text.specs.Puts.{number_most}
use Rattle.text.proofs.Decimals.{decimal-short}

pub number_short : (n : ℕ) → n < 2 ^ 64 → length (spaced n) ≤ number_most
unfolding spaced
number_short n h = omega (arith, decimal-short 19 n (omega arith))
