-- The trail closes up to the T field met last, and the T fields before the stack word i are done: since the fields rise, the entries that
-- are left are those of the fields to come. Assumes nothing.
use Prim.Native.Nat.{ℕ, ◌+◌, ◌-◌, ◌≤◌, ◌<◌}
use mathlib.Core.Path.{◌≡◌, sym, ◌∙◌}
use mathlib.Core.Logic.{◌≢◌}
use mathlib.Core.Bool.{Bool}
use mathlib.Core.List.{List, ◌++◌}
use native.Mathlib.Omega.{arith}
use lib.ListN.{length, get_or, take, drop, set, replicate}
use Rattle.machine.specs.Layout.{T}
use Rattle.machine.specs.Roles.{own, code_of}
use Rattle.machine.specs.Moved.{below, move_entry}
use Rattle.machine.proofs.InPlace.{InPlace, in-place-none, in-place-more, in-place-end}
use Rattle.counts.specs.Counts.{Counting}
use Rattle.slide.specs.Slides.{entries_of, move_t, TrailSlides, TrailSlid}
use Rattle.slide.specs.Closed.{Passed, Closed, EntriesClose, EntriesClosed}
use Rattle.slide.proofs.Closing.{passed_none, passed-at, passed-join, closed_none, closed-end}
use Rattle.slide.proofs.Words.{move_t-field, move_t-other}

-- what the stack word w at i becomes, whichever set of kept cells is counted
abbrev Becomes : List ℕ → List ℕ → List ℕ → ℕ → ℕ → ℕ → Type 0
Becomes trail counts notes i w v = (cells : ℕ → Bool) → Counting cells (length counts) counts → v ≡ move_t (entries_of cells notes trail) notes i w

-- `from` is at most each T field to come
pub record Trailing (trail₀ stack₀ counts notes : List ℕ) (t : ℕ) (trail stack : List ℕ) (kept from i : ℕ) : Type 0 where
  pub low : from ≤ t
  pub trails : Passed trail₀ trail from kept
  pub stacks : InPlace (Becomes trail₀ counts notes) stack₀ stack i
  pub ahead : (j : ℕ) → i ≤ j → j < length stack₀ → get_or notes j 0 ≡ code_of (own T) → from ≤ get_or stack₀ j 0
  pub entries : (cells : ℕ → Bool) → Counting cells (length counts) counts → Closed (entries_of cells notes trail₀) (move_entry (below cells)) trail₀ trail from kept

module _ {trail₀ stack₀ counts notes : List ℕ} {t : ℕ} where
  pub trailing-none : Trailing trail₀ stack₀ counts notes t trail₀ stack₀ 0 0 0
  trailing-none = record {
    low = omega arith;
    trails = passed_none trail₀;
    stacks = in-place-none _ stack₀;
    ahead = λ j a b e. omega arith;
    entries = λ cells k. closed_none _ _ _;
  }

  -- a word that is no T field is written as it stands
  pub trailing-other : {trail stack : List ℕ} {kept from i : ℕ} → Trailing trail₀ stack₀ counts notes t trail stack kept from i → i < length stack₀ → get_or notes i 0 ≢ code_of (own T) → Trailing trail₀ stack₀ counts notes t trail (set stack i (get_or stack i 0)) kept from (i + 1)
  trailing-other {stack = stack} {i = i} r h n = record {
    low = r.low;
    trails = r.trails;
    stacks = in-place-more _ r.stacks h (get_or stack i 0) (λ cells c. sym (move_t-other _ notes i _ n));
    ahead = λ j a b m. r.ahead j (omega arith) b m;
    entries = r.entries;
  }

  module _ (s : TrailSlides trail₀ stack₀ counts notes t) where
    -- the entries from `from` up to z can be closed up
    pub trailing-close : {trail stack : List ℕ} {kept from i : ℕ} → Trailing trail₀ stack₀ counts notes t trail stack kept from i → (z : ℕ) → from ≤ z → z ≤ t → EntriesClose trail counts notes from z kept
    trailing-close {trail} r z h m = record {
      low = r.trails.low;
      order = h;
      inside = omega (arith, r.trails.same, s.inside);
      named = λ j a b.
          rw (passed-at r.trails j a) (record {
            heap_cell = λ l. s.heap_entries j (omega arith) l;
            stack_word = λ l. omega (arith, s.stack_entries j (omega arith) l, s.room);
          });
    }

    -- and then they are
    trailing-closed : {trail stack trail' : List ℕ} {kept from i z k : ℕ} → Trailing trail₀ stack₀ counts notes t trail stack kept from i → z ≤ t → EntriesClosed trail counts notes from z kept trail' k → (cells : ℕ → Bool) → Counting cells (length counts) counts → Closed (entries_of cells notes trail₀) (move_entry (below cells)) trail₀ trail' z k
    trailing-closed r m e cells c = e.closed cells trail₀ c r.trails (r.entries cells c)

    -- the next T field is between `from` and t
    pub trailing-up : {trail stack : List ℕ} {kept from i : ℕ} → Trailing trail₀ stack₀ counts notes t trail stack kept from i → i < length stack₀ → get_or notes i 0 ≡ code_of (own T) → (from ≤ get_or stack i 0) × (get_or stack i 0 ≤ t)
    trailing-up {stack = stack} {i = i} r h n =
        let w : get_or stack i 0 ≡ get_or stack₀ i 0 = r.stacks.left i (omega arith) in
        (omega (arith, r.ahead i (omega arith) h n), omega (arith, s.last i h n))

    -- a T field becomes the number of kept entries below it
    pub trailing-field : {trail stack trail' stack' : List ℕ} {kept from i k : ℕ} → Trailing trail₀ stack₀ counts notes t trail stack kept from i → i < length stack₀ → get_or notes i 0 ≡ code_of (own T) → EntriesClosed trail counts notes from (get_or stack i 0) kept trail' k → stack' ≡ set stack i k → Trailing trail₀ stack₀ counts notes t trail' stack' k (get_or stack i 0) (i + 1)
    trailing-field {stack = stack} {i = i} {k = k} r h n e q =
        let w : get_or stack i 0 ≡ get_or stack₀ i 0 = r.stacks.left i (omega arith) in
        let u = trailing-up r h n in
        record {
          low = u.1;
          trails = passed-join r.trails u.0 e.passed;
          stacks = rw q (in-place-more _ r.stacks h k (λ cells c. (trailing-closed r u.1 e cells c).count ∙ sym (move_t-field _ notes i _ n)));
          ahead = λ j a b m. omega (arith, s.rising i j (omega arith) b n m);
          entries = trailing-closed r u.1 e;
        }

    pub trailing-end : {trail stack trail' trail'' : List ℕ} {kept from i k : ℕ} → Trailing trail₀ stack₀ counts notes t trail stack kept from i → i ≡ length stack₀ → EntriesClosed trail counts notes from t kept trail' k → trail'' ≡ take k trail' ++ (replicate (t - k) 0 ++ drop t trail') → (cells : ℕ → Bool) → Counting cells (length counts) counts → TrailSlid cells trail₀ stack₀ notes t trail'' stack k
    trailing-end r h e q cells c =
        let o = trailing-closed r (omega arith) e cells c in
        record {
          entries = q ∙ closed-end (entries_of cells notes trail₀) (move_entry (below cells)) trail₀ (passed-join r.trails r.low e.passed) o;
          fields = in-place-end _ r.stacks (omega arith) _ (λ k w v b. b cells c);
          kept = o.count;
        }
