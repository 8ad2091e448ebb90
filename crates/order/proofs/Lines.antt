-- The queue against all chains from the roots: each path of the queue is such a chain, each chain ends at a cell of the queue, the source of a cell
-- is the first that refers to it, and no cell stands twice. By the sources, which are the roots and the queue's own cells. Assumes nothing.
use Prim.Native.Nat.{ℕ, ◌+◌, ◌<◌, ◌≤◌}
use mathlib.Core.Path.{◌≡◌, sym, ap, ◌∙◌}
use mathlib.Core.Logic.{inl, inr}
use mathlib.Core.List.{List, [], ◌∷◌}
use native.Mathlib.Omega.{arith}
use native.Mathlib.Decide.{dec_lt}
use lib.ListN.{length, get_or, length-append}
use Rattle.cell.specs.Word.{Refers}
use Rattle.machine.proofs.Lists.{In}
use Rattle.order.specs.Queue.{source, Queued, Path, by_root, by_cell, Line, direct, onward}
use Rattle.order.proofs.Sources.{source-root, source-cell, in-at}
use Rattle.order.proofs.Paths.{path-root, path-start}

pub line-long : {heap : List ℕ} {word : ℕ → ℕ} {roots s x : ℕ} {line : List ℕ} → Line heap word roots s line x → 0 < length line
line-long (direct l f) = omega arith
line-long (onward {cells = line} {x = x} d f) = omega (arith, length-append line (x ∷ []))

module _ {heap : List ℕ} {word : ℕ → ℕ} {roots : ℕ} {cells from : List ℕ} (q : Queued heap word roots cells from) where
  -- a path is a chain
  pub path-line : {j r : ℕ} {path : List ℕ} → Path roots cells from j r path → Line heap word roots r path (get_or cells j 0)
  path-line (by_root {j = j} l m) = direct m (rw (source-root heap word roots cells (get_or from j 0) m) at (q.refers j l))
  path-line (by_cell {j = j} {i = i} l e p) =
      let o : source heap word roots cells (get_or from j 0) ≡ get_or heap (get_or cells i 0) 0 = ap (source heap word roots cells) e ∙ source-cell heap word roots cells i in
      onward (path-line p) (rw o at (q.refers j l))

  -- the source that the cell y is, standing at place i
  pub source-at : (i : ℕ) {y : ℕ} → get_or cells i 0 ≡ y → source heap word roots cells (roots + i) ≡ get_or heap y 0
  source-at i e = source-cell heap word roots cells i ∙ ap (λ (z : ℕ). get_or heap z 0) e

  -- a chain ends at a cell of the queue
  pub line-met : {s x : ℕ} {line : List ℕ} → Line heap word roots s line x → In x cells
  line-met {s} (direct {x = x} l f) = q.all s x (omega arith) (rw (source-root heap word roots cells s l) f)
  line-met (onward {x = x} d f) =
      let p = in-at (line-met d) in
      q.all (roots + p.0) x (omega arith) (rw (source-at p.0 p.2) f)

  pub line-place : {s x : ℕ} {line : List ℕ} → Line heap word roots s line x → (j : ℕ) × (j < length cells) × (get_or cells j 0 ≡ x)
  line-place d = in-at (line-met d)

  -- the source of a cell is the first that refers to it
  pub from_first : (j s : ℕ) → j < length cells → Refers heap (source heap word roots cells s) (get_or cells j 0) → get_or from j 0 ≤ s
  from_first j s l f =
      elim (dec_lt s (get_or from j 0)) [
        | yes m ↦ absurd (q.first j s l (omega arith) f)
        | no m ↦ omega arith
      ]

  -- no cell stands twice
  different : (i j : ℕ) → i < j → j < length cells → get_or cells i 0 ≡ get_or cells j 0 → ⊥
  different i j l m e =
      elim (q.rising i j l m) [
        | inl o ↦ q.first j (get_or from i 0) m o (rw e at (q.refers i (omega arith)))
        | inr o ↦ omega arith
      ]

  pub cells-distinct : (i j : ℕ) → i < length cells → j < length cells → get_or cells i 0 ≡ get_or cells j 0 → i ≡ j
  cells-distinct i j l m e =
      elim (dec_lt i j) [
        | yes o ↦ absurd (different i j o m e)
        | no o ↦
            elim (dec_lt j i) [
              | yes g ↦ absurd (different j i g l (sym e))
              | no g ↦ omega arith
            ]
      ]

  -- the root of a path refers to its first cell, and is the first to do so
  pub root-refers : {j r : ℕ} {path : List ℕ} → Path roots cells from j r path → Refers heap (word r) (get_or path 0 0)
  root-refers {r = r} {path = path} p =
      let s = path-start p in
      let e : get_or path 0 0 ≡ get_or cells s.0 0 = ap (λ (l : List ℕ). get_or l 0 0) s.4 in
      let o : source heap word roots cells (get_or from s.0 0) ≡ word r = ap (source heap word roots cells) s.3 ∙ source-root heap word roots cells r (path-root p) in
      rw e (rw o at (q.refers s.0 s.2))

  pub root-first : {j r : ℕ} {path : List ℕ} → Path roots cells from j r path → (s : ℕ) → s < roots → Refers heap (word s) (get_or path 0 0) → r ≤ s
  root-first {path = path} p s l f =
      let t = path-start p in
      let e : get_or path 0 0 ≡ get_or cells t.0 0 = ap (λ (l : List ℕ). get_or l 0 0) t.4 in
      omega (arith, t.3, from_first t.0 s t.2 (rw (source-root heap word roots cells s l) (rw e at f)))

  -- so a search for the first root that refers to it ends there
  pub root_is : {j r : ℕ} {path : List ℕ} → Path roots cells from j r path → (s : ℕ) → s < roots → Refers heap (word s) (get_or path 0 0)
      → ((t : ℕ) → t < s → Refers heap (word t) (get_or path 0 0) → ⊥) → s ≡ r
  root_is {r = r} p s l f g =
      elim (dec_lt r s) [
        | yes m ↦ absurd (g r m (root-refers p))
        | no m ↦ omega (arith, root-first p s l f)
      ]
