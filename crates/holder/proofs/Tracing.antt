-- The chain is written from its end, and traced back level by level: what is written is the end of the chain, and what is left is the chain to
-- the cell that was come to. Assumes nothing.
use Prim.Native.Nat.{ℕ, suc, ◌+◌, ◌-◌, ◌<◌, ◌≤◌}
use mathlib.Core.Path.{◌≡◌, refl, sym, ap, ◌∙◌, subst}
use mathlib.Core.Bool.{true}
use mathlib.Core.List.{List, [], ◌∷◌, ◌++◌, append-nil}
use native.Mathlib.Omega.{arith}
use native.Mathlib.Numerals.{add-one}
use native.Mathlib.Decide.{dec_lt}
use lib.ListN.{length, get_or, take, drop, set, length-set, take-append-drop}
use lib.Seq.{take-suc, append_snoc, set_at, length-take-le}
use Rattle.std.specs.Prelude.{Option, Some, None, IsSome}
use Rattle.machine.specs.Lowest.{Lowest}
use Rattle.machine.proofs.Tests.{true-false}
use Rattle.order.specs.Levels.{Starts, levels}
use Rattle.order.proofs.Levels.{starts-count, starts-back}
use Rattle.queue.specs.Filled.{begins_at}
use Rattle.holder.specs.Tracing.{entry_at, parent_from, Traceable, Trace, alone, after, Traced}
use Rattle.holder.proofs.Levels.{levels-begun, levels-later}
use Rattle.holder.proofs.Seeks.{refers-true}

-- what stands in the room when a cell is put before what is written
pub written-more : (room : List ℕ) (k x : ℕ) (written : List ℕ) → k < length room → set (take (k + 1) room ++ written) k x ≡ take k room ++ (x ∷ written)
written-more room k x written l =
    rw (add-one, take-suc room k 0 l, append_snoc (take k room) (get_or room k 0) written, set_at (take k room) (get_or room k 0) written x k (length-take-le k room (omega arith)))

-- `left` cells are still to be written before the cell x, which stands at a place whose level begins at `level`
pub record Tracing (heap work : List ℕ) (j n : ℕ) (room₀ room : List ℕ) (x level left : ℕ) : Type 0 where
  pub at : ℕ
  pub low : at ≤ j
  pub here : x ≡ entry_at work at
  pub starts : Starts (begins_at work) level at
  pub depth : levels (begins_at work) level ≡ left
  pub rest : List ℕ
  pub size : left + 1 + length rest ≡ n
  pub goes : (path : List ℕ) → Trace heap work at path → Trace heap work j (path ++ rest)
  pub written : room ≡ take (left + 1) room₀ ++ (rest ++ drop n room₀)
  pub same : length room ≡ length room₀

-- nothing is written, and all of the chain is left
pub tracing-none : {heap work : List ℕ} {j n level : ℕ} (room : List ℕ) → Starts (begins_at work) level j → n ≡ levels (begins_at work) (suc j) → Tracing heap work j n room room (entry_at work j) level (n - 1)
tracing-none {heap} {work} {j} {n} {level} room s e =
    let more = starts-count s in
    let whole : n - 1 + 1 ≡ n = omega arith in
    record {
      at = j;
      low = omega arith;
      here = refl;
      starts = s;
      depth = omega arith;
      rest = [];
      size = omega arith;
      goes = λ path t. rw append-nil t;
      written = rw whole (sym (take-append-drop n room));
      same = refl;
    }

module _ {heap work : List ℕ} {j n : ℕ} {room₀ room : List ℕ} {x level left : ℕ} (t : Tracing heap work j n room₀ room x level left) (able : Traceable heap work (suc j)) where
  -- while cells are left there is a level above
  pub level-above : 0 < left → 0 < level
  level-above l = levels-later (begins_at work) level (omega (arith, t.depth))

  level-top : left ≡ 0 → level ≡ 0
  level-top e =
      elim (dec_lt 0 level) [
        | yes l ↦ absurd (omega (arith, levels-begun (begins_at work) able.top level l, t.depth))
        | no l ↦ omega arith
      ]

  -- and a cell there that refers to x
  pub parent_there : {a : ℕ} (r : Option ℕ) → 0 < left → Starts (begins_at work) a (level - 1) → Lowest (parent_from heap work a x) (level - a) r → IsSome r
  unfolding parent_from
  parent_there (Some p) l s f = refl
  parent_there {a} None l s f =
      let h = able.parents a level t.at (omega (arith, t.low)) t.starts (level-above l) s in
      let back : a + (h.at - a) ≡ h.at = omega (arith, h.low) in
      let refers : parent_from heap work a (entry_at work t.at) (h.at - a) ≡ true = rw back (refers-true heap (get_or heap (entry_at work h.at) 0) (entry_at work t.at) h.refers) in
      true-false (subst (λ (y : ℕ). parent_from heap work a y (h.at - a) ≡ true) (sym t.here) refers) (f (h.at - a) (omega (arith, h.low, h.high)))

  pub tracing-more : {a p : ℕ} → 0 < left → left < length room₀ → Starts (begins_at work) a (level - 1) → Lowest (parent_from heap work a x) (level - a) (Some p)
      → Tracing heap work j n room₀ (set room left x) (entry_at work (a + p)) a (left - 1)
  tracing-more {a} {p} l m s e =
      let high = level-above l in
      let back : suc (level - 1) ≡ level = omega arith in
      let whole : left - 1 + 1 ≡ left = omega arith in
      record {
        at = a + p;
        low = omega (arith, t.low, t.starts.low, e.0);
        here = refl;
        starts = starts-back (a + p) s (omega arith) (omega (arith, e.0));
        depth = omega (arith, starts-count s, ap (levels (begins_at work)) back, t.depth);
        rest = x ∷ t.rest;
        size = omega (arith, t.size);
        goes = λ path q.
            let found = subst (λ (y : ℕ). Lowest (parent_from heap work a y) (level - a) (Some p)) t.here e in
            let longer = subst (λ (y : ℕ). Trace heap work t.at (path ++ (y ∷ []))) (sym t.here) (after t.starts high s found q) in
            subst (Trace heap work j) (append_snoc path x t.rest) (t.goes (path ++ (x ∷ [])) longer);
        written = rw (t.written, whole) (written-more room₀ left x (t.rest ++ drop n room₀) m);
        same = simp length-set t.same;
      }

  pub tracing-end : left ≡ 0 → 0 < length room₀ → Traced heap work j room₀ (set room 0 x)
  tracing-end e l =
      let top : level ≡ 0 = level-top e in
      let first = subst (λ (b : ℕ). Starts (begins_at work) b t.at) top t.starts in
      let whole : suc (length t.rest) ≡ n = omega (arith, t.size) in
      record {
        path = x ∷ t.rest;
        trace = t.goes (x ∷ []) (subst (λ (y : ℕ). Trace heap work t.at (y ∷ [])) (sym t.here) (alone first));
        written = rw (t.written, e) (written-more room₀ 0 x (t.rest ++ drop n room₀) l ∙ ap (λ (k : ℕ). x ∷ (t.rest ++ drop k room₀)) (sym whole));
      }
