-- Where the levels of the queue begin: the first at place 0, and so the others later. Assumes nothing.
use Prim.Native.Nat.{ℕ, zero, suc, ◌<◌, ◌≤◌}
use mathlib.Core.Path.{◌≡◌}
use native.Mathlib.Omega.{arith}
use native.Mathlib.Numerals.{add-one}
use mathlib.Core.Path.{refl}
use mathlib.Core.Bool.{Bool}
use mathlib.Core.Logic.{inl, inr}
use mathlib.Core.List.{List}
use borrow.Author.Tests.{eqb-true, eqb-false}
use lib.Dec.{eqb}
use lib.ListN.{length, get_or, take}
use Rattle.std.specs.Prelude.{count_by}
use Rattle.std.proofs.lemmas.List.Sums.{count_by_more_no, count_by_more_yes}
use Rattle.machine.proofs.Tests.{either}
use Rattle.order.specs.Levels.{levels}
use Rattle.queue.specs.Filled.{level_bit, begins_at}

module _ (begins : ℕ → ℕ) where
  -- something has begun exactly below places after 0
  pub levels-begun : begins 0 ≡ 1 → (b : ℕ) → 0 < b → 0 < levels begins b
  unfolding levels
  levels-begun e zero l = absurd (omega arith)
  levels-begun e (suc zero) l = omega arith
  levels-begun e (suc (suc b)) l = omega (arith, levels-begun e (suc b) (omega arith))

  pub levels-later : (b : ℕ) → 0 < levels begins b → 0 < b
  unfolding levels
  levels-later zero l = l
  levels-later (suc b) l = omega arith

-- the words at which a level begins, counted
pub levels-counted : (work : List ℕ) (n : ℕ) → n ≤ length work → count_by (λ w. eqb (level_bit w) 1) (take n work) ≡ levels (begins_at work) n
unfolding levels
levels-counted work zero l = refl
levels-counted work (suc n) l =
    let test : ℕ → Bool = λ w. eqb (level_bit w) 1 in
    rw (← add-one n)
    (elim (either (test (get_or work n 0))) [
      | inl e ↦ omega (arith, count_by_more_yes test work n 0 (omega arith) e, eqb-true (begins_at work n) 1 e, levels-counted work n (omega arith))
      | inr e ↦ omega (arith, count_by_more_no test work n 0 (omega arith) e, eqb-false (begins_at work n) 1 e, levels-counted work n (omega arith))
    ])
