-- Chains of frames: what the first frame says of the rest, how long a chain can be, and a walk down it that counts. Assumes nothing.
use Prim.Native.Nat.{ℕ, suc, ◌+◌, ◌≤◌, ◌<◌}
use mathlib.Core.Path.{◌≡◌, refl, sym, ap, ◌∙◌, subst}
use mathlib.Core.Logic.{◌≢◌}
use mathlib.Core.List.{List}
use native.Mathlib.Omega.{arith}
use native.Mathlib.Decide.{ℕ_discrete}
use borrow.Author.Tests.{eq-eqb, ne_eqb}
use lib.ListN.{length}
use lib.Dec.{eqb}
use Rattle.cell.specs.Word.{pick}
use Rattle.machine.specs.Layout.{none, link_place}
use Rattle.tally.specs.Parts.{link_in, Chain, nothing, frame, Chained}

-- what a walk down a chain has left, as a number that falls: nothing, or no more than the index at hand
abbrev pub left : ℕ → ℕ
left e = pick (eqb e none) 0 (suc e)

pub left_less : (e next : ℕ) → e ≢ none → (next ≢ none → next < e) → left next < left e
left_less e next n falls =
    rw (ne_eqb e none n) (elim (ℕ_discrete next none) [
      | yes q ↦ rw (eq-eqb next none q) (omega arith)
      | no q ↦ rw (ne_eqb next none q) (omega (arith, falls q))
    ])

-- one more in a chain in which each lies above the next: there are no more than fit below the first
pub falls-short : (e next n : ℕ) → e ≢ none → (next ≢ none → next < e) → (next ≡ none → n ≡ 0) → n ≤ suc next → suc n ≤ suc e
falls-short e next n s falls last l =
    elim (ℕ_discrete next none) [
      | yes q ↦ omega (arith, last q)
      | no q ↦ omega (arith, falls q)
    ]

pub short-word : (e n : ℕ) → e ≤ none → (e ≡ none → n ≡ 0) → n ≤ suc e → n ≤ none
short-word e n w last l =
    elim (ℕ_discrete e none) [
      | yes q ↦ omega (arith, last q)
      | no q ↦ omega arith
    ]

-- a chain that has a frame
pub record First (stack : List ℕ) (e n : ℕ) : Type 0 where
  pub inside : e + link_place < length stack
  pub falls : link_in stack e ≢ none → link_in stack e < e
  pub rest : ℕ
  pub chain : Chain stack (link_in stack e) rest
  pub count : n ≡ suc rest

-- so many frames are passed between two
pub record Passed (stack : List ℕ) (from n e : ℕ) : Type 0 where
  pub ahead : Chained stack e
  pub back : (m : ℕ) → Chain stack e m → Chain stack from (n + m)

module _ {stack : List ℕ} where
  pub chain_first : {e n : ℕ} → Chain stack e n → e ≢ none → First stack e n
  chain_first (nothing q) s = absurd (s q)
  chain_first (frame {n = m} s inside falls c) t = record { inside = inside; falls = falls; rest = m; chain = c; count = refl }

  pub chain-none : {e n : ℕ} → Chain stack e n → e ≡ none → n ≡ 0
  chain-none (nothing q) e = refl
  chain-none (frame s inside falls c) e = absurd (s e)

  -- there is one chain from e
  pub one-chain : {e n m : ℕ} → Chain stack e n → Chain stack e m → n ≡ m
  one-chain (nothing q) d = sym (chain-none d q)
  one-chain (frame s inside falls c) d = let f = chain_first d s in ap suc (one-chain c f.chain) ∙ sym f.count

  pub chain-short : {e n : ℕ} → Chain stack e n → n ≤ suc e
  chain-short (nothing q) = omega arith
  chain-short (frame {e = e} {n = n} s inside falls c) = falls-short e (link_in stack e) n s falls (chain-none c) (chain-short c)

  pub chain-inside : {e n : ℕ} → Chain stack e n → n ≤ length stack
  chain-inside (nothing q) = omega arith
  chain-inside (frame s inside falls c) = omega (arith, chain-short (frame s inside falls c))

  pub chain-word : {e n : ℕ} → e ≤ none → Chain stack e n → n ≤ none
  chain-word {e} {n} l c = short-word e n l (chain-none c) (chain-short c)

  module _ {from n e : ℕ} (p : Passed stack from n e) (s : e ≢ none) where
    abbrev here : First stack e p.ahead.frames
    here = chain_first p.ahead.chain s

    pub passed-inside : e + link_place < length stack
    passed-inside = here.inside

    pub passed-more : Passed stack from (n + 1) (link_in stack e)
    passed-more = record {
      ahead = record { frames = here.rest; chain = here.chain };
      back = λ m c. let z : n + suc m ≡ n + 1 + m = omega arith in subst (λ (k : ℕ). Chain stack from k) z (p.back (suc m) (frame s here.inside here.falls c));
    }

    pub passed-word : from ≤ none → n + 1 ≤ none
    passed-word l = omega (arith, chain-word l (p.back _ p.ahead.chain), here.count)
