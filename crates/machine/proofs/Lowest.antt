-- Laws of the lowest index as an answer that may be none: it is the first of the table's definitions, and a scan refuses at it. Assumes nothing.
use Rattle.std.specs.Prelude.{ℕ, ◌≡◌, Bool, Option, Some, None}
use Rattle.std.proofs.Common.{arith}
use native.Mathlib.Decide.{dec_lt}
use Rattle.machine.specs.Refusals.{Verdict, accepted, first, scan}
use Rattle.machine.specs.Lowest.{Lowest}
use Rattle.machine.proofs.Tests.{true-false}
use Rattle.machine.proofs.Firsts.{first-before, first-bad, first-none, scan-first, scan-passes}

-- what a check answers for the index that was found
abbrev pub found : (ℕ → Verdict) → Option ℕ → Verdict
found refusal None = accepted
found refusal (Some i) = refusal i

-- the index that was found, or n
abbrev pub or_end : ℕ → Option ℕ → ℕ
or_end n None = n
or_end n (Some i) = i

module _ (bad : ℕ → Bool) (n : ℕ) where
  pub first-lowest : (r : Option ℕ) → Lowest bad n r → first bad 0 n ≡ or_end n r
  first-lowest None f = omega (arith, first-none bad 0 n (λ j a b. f j (omega arith)))
  first-lowest (Some i) f =
      elim (dec_lt (first bad 0 n) i) [
        | yes l ↦ true-false (first-bad bad 0 n (omega (arith, f.0))) (f.2 (first bad 0 n) l)
        | no h ↦
            elim (dec_lt i (first bad 0 n)) [
              | yes l ↦ true-false f.1 (first-before bad 0 n i (omega arith) l)
              | no g ↦ omega arith
            ]
      ]

  pub scan-lowest : (refusal : ℕ → Verdict) (r : Option ℕ) → Lowest bad n r → scan bad n refusal ≡ found refusal r
  scan-lowest refusal None f = scan-passes bad n refusal f
  scan-lowest refusal (Some i) f = scan-first bad n refusal i (first-lowest (Some i) f) f.0
