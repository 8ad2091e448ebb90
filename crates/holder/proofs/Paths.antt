-- What is traced back through the levels is the queue's own path to the cell: the first cell of the level above that refers to it is the source
-- from which it came. Assumes nothing.
use Prim.Native.Nat.{ℕ, ◌+◌, ◌-◌, ◌<◌, ◌≤◌}
use mathlib.Core.Path.{◌≡◌, sym, subst}
use mathlib.Core.Bool.{true}
use mathlib.Core.List.{List, [], ◌∷◌, ◌++◌}
use native.Mathlib.Omega.{arith}
use lib.ListN.{length, get_or}
use Rattle.cell.specs.Word.{Refers}
use Rattle.std.specs.Prelude.{Some}
use Rattle.machine.specs.Lowest.{Lowest}
use Rattle.machine.proofs.Tests.{true-false}
use Rattle.order.specs.Queue.{Path, by_root, by_cell}
use Rattle.order.proofs.Levels.{Parent, parent, parent_is, top_from}
use Rattle.queue.specs.Filled.{begins_at, root_count, Filled}
use Rattle.holder.specs.Tracing.{entry_at, parent_from, Trace, alone, after}
use Rattle.holder.proofs.Seeks.{refers-true, true-refers}

module _ {control stack heap work₀ work : List ℕ} {tail : ℕ} (f : Filled control stack heap work₀ work tail) where
  -- the test for a parent, of a place of the queue, says that its cell refers to that at j
  test-refers : (a i j : ℕ) → a + i < tail → j < tail → parent_from heap work a (entry_at work j) i ≡ true
      → Refers heap (get_or heap (get_or f.cells (a + i) 0) 0) (get_or f.cells j 0)
  unfolding parent_from
  test-refers a i j l m e = true-refers heap (get_or heap (get_or f.cells (a + i) 0) 0) (get_or f.cells j 0) (rw (f.entries (a + i) l, f.entries j m) at e)

  refers-test : (a k j : ℕ) → a ≤ k → k < tail → j < tail → Refers heap (get_or heap (get_or f.cells k 0) 0) (get_or f.cells j 0)
      → parent_from heap work a (entry_at work j) (k - a) ≡ true
  unfolding parent_from
  refers-test a k j o l m r =
      let back : a + (k - a) ≡ k = omega arith in
      rw (back, f.entries k l, f.entries j m) (refers-true heap (get_or heap (get_or f.cells k 0) 0) (get_or f.cells j 0) r)

  -- the first that passes is the source
  source-found : {a b i : ℕ} (j : ℕ) → b ≤ tail → j < tail → Lowest (parent_from heap work a (entry_at work j)) (b - a) (Some i)
      → (u : Parent heap f.cells f.from (begins_at work) (root_count control stack) a b j) → a + i ≡ u.at
  source-found {a} {b} {i} j h l e u =
      parent_is u (a + i) (test-refers a i j (omega (arith, e.0)) l e.1) (λ k o p r.
      true-false (refers-test a k j o (omega (arith, e.0)) l r) (e.2 (k - a) (omega arith)))

  pub trace-path : {j : ℕ} {path : List ℕ} → Trace heap work j path → j < tail → (r : ℕ) × Path (root_count control stack) f.cells f.from j r path
  trace-path (alone {j = j} s) l =
      let low : j < length f.cells = omega (arith, f.count) in
      let one = by_root low (top_from f.queued f.levelled j low s) in
      (get_or f.from j 0, subst (λ (y : ℕ). Path (root_count control stack) f.cells f.from j (get_or f.from j 0) (y ∷ [])) (sym (f.entries j l)) one)
  trace-path (after {a = a} {b = b} {i = i} {j = j} {path = path} s p t e d) l =
      let low : j < length f.cells = omega (arith, f.count) in
      let u = parent f.queued f.levelled j low s p t in
      let is = source-found j (omega (arith, s.low)) l e u in
      let front = trace-path d (omega (arith, s.low, e.0)) in
      let came : get_or f.from j 0 ≡ root_count control stack + (a + i) = omega (arith, u.came) in
      let more = by_cell low came front.1 in
      (front.0, subst (λ (y : ℕ). Path (root_count control stack) f.cells f.from j front.0 (path ++ (y ∷ []))) (sym (f.entries j l)) more)
