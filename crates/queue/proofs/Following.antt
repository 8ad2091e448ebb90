-- The queue followed to its end: what a turn keeps, for whatever roots the search began with, and what holds at the end. Assumes nothing.
use Prim.Native.Nat.{ℕ, ◌+◌, ◌≤◌, ◌<◌}
use mathlib.Core.Path.{◌≡◌, sym, ap, ◌∙◌, subst}
use mathlib.Core.Logic.{◌⊎◌, inl, inr, ◌≢◌}
use mathlib.Core.List.{List}
use native.Mathlib.Omega.{arith}
use lib.ListN.{get_or, set, length, length-set}
use lib.Seq.{get_or-set_same, get_or-set_other}
use Rattle.mark.specs.Marks.{Within}
use Rattle.order.specs.Queue.{source}
use Rattle.queue.specs.Filled.{met_bit, level_bit, entry_of, begins_at}
use Rattle.queue.specs.Entering.{Fit, Read}
use Rattle.queue.specs.Reading.{Reading, Holds, Searched, Followed}
use Rattle.queue.proofs.Words.{plus-two}
use Rattle.queue.proofs.Puts.{unmet-same, set-part}
use Rattle.queue.proofs.Entering.{entered-length, entered-tail, entered-fit, entered-level}
use Rattle.queue.proofs.Reading.{cell-source, reading-end}
use Rattle.queue.proofs.Turns.{turn-read}
use Rattle.queue.proofs.Levels.{Levels, levels-begin, levels-turn, levels-end}

-- the sources before roots + i have been read, and the next level begins at `next`
pub record Going (heap : List ℕ) (word : ℕ → ℕ) (roots : ℕ) (q : List ℕ) (t next i : ℕ) : Type 0 where
  pub cells : List ℕ
  pub from : List ℕ
  pub reading : Reading heap word roots (roots + i) 0 cells from
  pub holds : Holds q t cells
  pub levels : Levels (begins_at q) roots i next from

-- the loop's invariant
pub record Following (heap q₀ : List ℕ) (t₀ : ℕ) (q : List ℕ) (t next i : ℕ) : Type 0 where
  pub order : i ≤ next
  pub ahead : next ≤ t
  pub fit : Fit q t
  pub same : length q ≡ length q₀
  pub clear : (j : ℕ) → next ≤ j → begins_at q j ≡ 0
  pub going : (word : ℕ → ℕ) (roots : ℕ) → Searched heap word roots roots q₀ t₀ → Going heap word roots q t next i

module _ {heap q₀ q : List ℕ} {t₀ t : ℕ} where
  -- ---- a level begins at i

  module _ (next i : ℕ) (k₀ : Following heap q₀ t₀ q t next i) (e₀ : i ≡ next) (h : i < t) where
    k : Following heap q₀ t₀ q t i i
    k = subst (λ (n : ℕ). Following heap q₀ t₀ q t n i) (sym e₀) k₀

    abbrev w : ℕ
    w = get_or q i 0

    abbrev begun : List ℕ
    begun = set q i (w + 2)

    abbrev two : (met_bit (w + 2) ≡ met_bit w) × (level_bit (w + 2) ≡ 1) × (entry_of (w + 2) ≡ entry_of w)
    two = plus-two w (k.clear i (omega arith))

    inside : i < length q
    inside = omega (arith, k.fit.room)

    begun-length : length begun ≡ length q
    begun-length = length-set q i (w + 2)

    other : (j : ℕ) → j ≢ i → get_or begun j 0 ≡ get_or q j 0
    other j o = get_or-set_other q i j (w + 2) 0 o

    begun-entry : (j : ℕ) → entry_of (get_or begun j 0) ≡ entry_of (get_or q j 0)
    begun-entry j = set-part entry_of q i (w + 2) j inside two.2

    begun-met : (j : ℕ) → met_bit (get_or begun j 0) ≡ met_bit (get_or q j 0)
    begun-met j = set-part met_bit q i (w + 2) j inside two.0

    begun-fit : Fit begun t
    begun-fit = record {
      small = omega (arith, begun-length, k.fit.small);
      room = omega (arith, begun-length, unmet-same q i (w + 2) inside two.0, k.fit.room);
      inside = λ j l. omega (arith, begun-length, begun-entry j, k.fit.inside j l);
      free = λ j l. rw (other j (omega arith)) (k.fit.free j l);
    }

    begun-holds : {cells : List ℕ} → Holds q t cells → Holds begun t cells
    begun-holds b = record {
      count = b.count;
      entries = λ j l. begun-entry j ∙ b.entries j l;
      met = λ x l. let m = b.met x (omega (arith, begun-length)) in (λ e. m.0 (sym (begun-met x) ∙ e), λ n. begun-met x ∙ m.1 n);
      low = λ x n. omega (arith, begun-length, b.low x n);
    }

    following-begin : Following heap q₀ t₀ begun t t i
    following-begin = record {
      order = omega arith;
      ahead = omega arith;
      fit = begun-fit;
      same = begun-length ∙ k.same;
      clear = λ j l. ap level_bit (other j (omega arith)) ∙ k.clear j (omega arith);
      going = λ word roots s.
          let g = k.going word roots s in
          let e : length g.from ≡ t = g.reading.paired ∙ g.holds.count in
          let l = levels-begin (begins_at q) roots g.from (begins_at begun) i (ap level_bit (get_or-set_same q i (w + 2) 0 inside) ∙ two.1) (λ j o. ap level_bit (other j o)) (omega arith) g.levels in
          record {
            cells = g.cells;
            from = g.from;
            reading = g.reading;
            holds = begun-holds g.holds;
            levels = subst (λ (n : ℕ). Levels (begins_at begun) roots i n g.from) e l;
          };
    }

  -- a level begins at i, or is under way
  pub following-level : {q₁ : List ℕ} {next₁ next i : ℕ} → Following heap q₀ t₀ q t next i → i < t → ((i ≡ next) × (q₁ ≡ set q i (get_or q i 0 + 2)) × (next₁ ≡ t)) ⊎ ((i ≢ next) × (q₁ ≡ q) × (next₁ ≡ next)) → Following heap q₀ t₀ q₁ t next₁ i × (i < next₁)
  following-level {next = next} {i = i} k h (inl w) = rw (w.1, w.2) (following-begin next i k w.0 h, h)
  following-level k h (inr w) = let o = w.0 in rw (w.1, w.2) (k, omega (arith, k.order))

  -- ---- the cell at i is looked into

  module _ {next i : ℕ} (k : Following heap q₀ t₀ q t next i) (h : i < next) where
    abbrev target : ℕ
    target = get_or heap (entry_of (get_or q i 0)) 0

    pub following-turn : {q' : List ℕ} {t' w : ℕ} → w ≡ target → Within (length q) heap w → Read heap w q t q' t' → Following heap q₀ t₀ q' t' next (i + 1)
    following-turn {q'} {t'} {w} e low r = record {
      order = omega arith;
      ahead = omega (arith, k.ahead, entered-tail r);
      fit = entered-fit k.fit low r;
      same = entered-length r ∙ k.same;
      clear = λ j l. level j ∙ k.clear j l;
      going = λ word roots s.
          let g = k.going word roots s in
          let n : length g.from ≡ t = g.reading.paired ∙ g.holds.count in
          let b = turn-read heap word roots (roots + i) g.cells g.from (omega (arith, k.ahead, g.holds.count)) g.reading.paired w (read word roots g ∙ sym e) g.reading g.holds k.fit low r in
          record {
            cells = b.cells';
            from = b.from';
            reading = subst (λ (s : ℕ). Reading heap word roots s 0 b.cells' b.from') (omega arith) b.reading;
            holds = b.holds;
            levels = levels-turn (begins_at q) roots g.from (begins_at q') level b.from' (omega (arith, k.ahead)) b.kept b.fresh g.levels;
          };
    }
      where
        level : (j : ℕ) → begins_at q' j ≡ begins_at q j
        level = entered-level k.fit low r

        read : (word : ℕ → ℕ) (roots : ℕ) (g : Going heap word roots q t next i) → source heap word roots g.cells (roots + i) ≡ target
        read word roots g =
            cell-source heap word roots g.cells i ∙ ap (λ (x : ℕ). get_or heap x 0) (sym (g.holds.entries i (omega (arith, k.ahead))))

  -- ---- the end

  pub following-end : {next i : ℕ} → Following heap q₀ t₀ q t next i → t ≤ i → (word : ℕ → ℕ) (roots : ℕ) → Searched heap word roots roots q₀ t₀ → Followed heap word roots q t
  following-end {next} {i} k h word roots s =
      let g = k.going word roots s in
      let e : next ≡ length g.from = omega (arith, k.order, k.ahead, g.reading.paired, g.holds.count) in
      record {
        cells = g.cells;
        from = g.from;
        queued = reading-end heap word roots (omega (arith, g.holds.count)) g.reading;
        levelled = levels-end (begins_at q) roots g.from (λ j. omega arith) (subst (λ (n : ℕ). Levels (begins_at q) roots i n g.from) e g.levels);
        holds = g.holds;
        most = omega (arith, k.fit.room);
      }
