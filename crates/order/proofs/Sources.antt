-- What the sources of the queue are, and where a member of a list stands in it. By the cases of the two definitions. Assumes nothing.
use Prim.Native.Nat.{ℕ, zero, suc, ◌+◌, ◌-◌, ◌<◌}
use mathlib.Core.Path.{◌≡◌, refl, sym}
use mathlib.Core.List.{List, [], ◌∷◌}
use native.Mathlib.Omega.{arith}
use borrow.Author.Tests.{lt-ltb, le-ltb}
use lib.ListN.{length, get_or}
use Rattle.machine.proofs.Lists.{In, here, there}
use Rattle.order.specs.Queue.{source}

module _ (heap : List ℕ) (word : ℕ → ℕ) (roots : ℕ) (cells : List ℕ) where
  -- a source below `roots` is that root's word
  pub source-root : (s : ℕ) → s < roots → source heap word roots cells s ≡ word s
  unfolding source
  source-root s l = rw (lt-ltb s roots l)

  -- the others are the words of the queue's cells
  pub source-cell : (i : ℕ) → source heap word roots cells (roots + i) ≡ get_or heap (get_or cells i 0) 0
  unfolding source
  source-cell i =
      let e : roots + i - roots ≡ i = omega arith in
      rw (le-ltb (roots + i) roots (omega arith), e)

-- a member of a list stands somewhere in it
pub in-at : {x : ℕ} {xs : List ℕ} → In x xs → (j : ℕ) × (j < length xs) × (get_or xs j 0 ≡ x)
in-at (here e) = (0, omega arith, sym e)
in-at (there m) = let p = in-at m in (suc p.0, omega arith, p.2)

-- and what stands somewhere in it is a member
pub at_in : (xs : List ℕ) (j : ℕ) → j < length xs → In (get_or xs j 0) xs
at_in [] j l = absurd (omega arith)
at_in (x ∷ xs) zero l = here refl
at_in (x ∷ xs) (suc j) l = there (at_in xs j (omega arith))
