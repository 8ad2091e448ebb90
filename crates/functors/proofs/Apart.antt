-- Structures that lie apart: the scan of `apart`, and what flags or counts then tell. Assumes nothing.
use Prim.Native.Nat.{ℕ, ◌+◌, ◌%◌, ◌≤◌, ◌<◌}
use mathlib.Core.Path.{◌≡◌, sym, ◌∙◌}
use mathlib.Core.List.{List}
use native.Mathlib.Omega.{arith}
use native.Mathlib.Decide.{ℕ_discrete}
use borrow.Author.Tests.{lt-ltb, le-ltb, ltb-true, eq-eqb, ne_eqb}
use lib.ListN.{get_or}
use Rattle.cell.specs.Word.{arity_of}
use Rattle.machine.proofs.Below.{below-lt}
use Rattle.machine.proofs.FirstCells.{of_none}
use Rattle.counts.specs.Counts.{marked_in, Counted}
use Rattle.counts.proofs.Counting.{odd-cell}
use Rattle.functors.specs.Functors.{Apart, Tallied}

-- ---- the turn x of `apart`

pub record Scanned (heap work : List ℕ) (free i : ℕ) : Type 0 where
  pub none : (x y : ℕ) → x < y → y < i → 0 < get_or work x 0 → y ≤ x + arity_of (get_or heap x 0) → get_or work y 0 ≡ 0
  pub ends : (x : ℕ) → x < i → 0 < get_or work x 0 → x + arity_of (get_or heap x 0) < free
  pub low : free ≤ i + 256

-- ---- what the work words tell

module _ (heap : List ℕ) (h : ℕ) (flags : List ℕ) where
  pub flags-tell : ((x : ℕ) → x < h → get_or flags x 0 ≤ 1) → Apart heap h flags → Tallied (marked_in flags) heap h flags 0
  flags-tell f a = record {
    odd = record {
      at = λ x l.
          elim (ℕ_discrete (get_or flags x 0) 0) [
            | yes e ↦ ne_eqb (get_or flags x 0 % 2) 1 (λ q. omega (arith, e)) ∙ sym (le-ltb 0 (get_or flags x 0) (omega arith))
            | no n ↦ eq-eqb (get_or flags x 0 % 2) 1 (omega (arith, f x l)) ∙ sym (lt-ltb 0 (get_or flags x 0) (omega arith))
          ];
    };
    alone = λ z x l e.
        of_none (marked_in flags) (x + 1) (arity_of (get_or heap x 0)) (λ j p q.
        le-ltb 0 (get_or flags j 0) (omega (arith, a.none x j (omega arith) (omega arith) (ltb-true 0 (get_or flags x 0) e) (omega arith))));
    counting = λ p. absurd (omega arith);
    all = λ p. absurd (omega arith);
  }

  -- without a first cell there is none among arguments
  pub counts-tell : {counts : List ℕ} {total : ℕ} → Counted flags h counts total → Tallied (marked_in flags) heap h counts total
  counts-tell c = record {
    odd = record { at = odd-cell c.counting };
    alone = λ z x l e. absurd (omega (arith, c.total, below-lt (marked_in flags) x h (omega arith) e));
    counting = λ p. c.counting;
    all = λ p. c.total;
  }
