-- The stack's words read one after the other, as their notes say which are cells. Assumes nothing.
use Prim.Native.Nat.{ℕ, ◌+◌}
use mathlib.Core.Path.{◌≡◌, refl}
use mathlib.Core.Logic.{◌≢◌}
use mathlib.Core.List.{List}
use borrow.Author.Tests.{eq-eqb, ne_eqb}
use lib.ListN.{get_or}
use Rattle.cell.proofs.Words.{extent-const}
use Rattle.machine.specs.Roles.{cell, code_of}
use Rattle.queue.specs.Filled.{nothing}
use Rattle.queue.specs.Entering.{none, Read, ReadAll, stack_word}
use Rattle.queue.proofs.Entering.{all_more}

module _ (stack notes : List ℕ) (i : ℕ) where
  pub stack-cell : get_or notes i 0 ≡ code_of cell → stack_word stack notes i ≡ get_or stack i 0
  unfolding stack_word
  stack-cell e = rw (eq-eqb (get_or notes i 0) (code_of cell) e)

  pub stack-nothing : get_or notes i 0 ≢ code_of cell → stack_word stack notes i ≡ nothing
  unfolding stack_word
  stack-nothing e = rw (ne_eqb (get_or notes i 0) (code_of cell) e)

read-nothing : (heap q : List ℕ) (t : ℕ) → Read heap nothing q t q t
read-nothing heap q t = rw (extent-const heap nothing refl) none

-- the source n is no cell
pub all-skip : {heap q q₁ : List ℕ} {word : ℕ → ℕ} {t t₁ : ℕ} (n : ℕ) → word n ≡ nothing → ReadAll heap word q t n q₁ t₁ → ReadAll heap word q t (n + 1) q₁ t₁
all-skip {heap} {q₁ = q₁} {t₁ = t₁} n e g = all_more n nothing e g (read-nothing heap q₁ t₁)
