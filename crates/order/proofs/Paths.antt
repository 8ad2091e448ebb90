-- The paths of the queue: each of its places has one and only one, which starts at a root and ends at the cell of that place. By the sources, each
-- of which stands earlier than what came from it. Assumes nothing.
use Prim.Native.Nat.{ℕ, zero, suc, ◌+◌, ◌-◌, ◌<◌}
use mathlib.Core.Path.{◌≡◌, refl, ap, subst}
use mathlib.Core.List.{List, [], ◌∷◌, ◌++◌}
use native.Mathlib.Omega.{arith}
use native.Mathlib.Decide.{dec_lt}
use lib.ListN.{length, get_or, length-append}
use Rattle.order.specs.Queue.{Queued, Path, by_root, by_cell}

module _ {roots : ℕ} {cells from : List ℕ} where
  pub path-low : {j r : ℕ} {path : List ℕ} → Path roots cells from j r path → j < length cells
  path-low (by_root l m) = l
  path-low (by_cell l e p) = l

  pub path-root : {j r : ℕ} {path : List ℕ} → Path roots cells from j r path → r < roots
  path-root (by_root l m) = m
  path-root (by_cell l e p) = path-root p

  -- the path with the cell of its place taken off
  pub path-end : {j r : ℕ} {path : List ℕ} → Path roots cells from j r path → (front : List ℕ) × (path ≡ front ++ (get_or cells j 0 ∷ []))
  path-end (by_root l m) = ([], refl)
  path-end (by_cell {path = path} l e p) = (path, refl)

  pub path-long : {j r : ℕ} {path : List ℕ} → Path roots cells from j r path → 0 < length path
  path-long {j} p = let e = path-end p in omega (arith, ap length e.1, length-append e.0 (get_or cells j 0 ∷ []))

  -- its first cell stands at a place that came from the root
  pub path-start : {j r : ℕ} {path : List ℕ} → Path roots cells from j r path → (i : ℕ) × (rest : List ℕ) × (i < length cells) × (get_or from i 0 ≡ r) × (path ≡ get_or cells i 0 ∷ rest)
  path-start (by_root {j = j} l m) = (j, [], l, refl, refl)
  path-start (by_cell {j = j} l e p) =
      let s = path-start p in
      (s.0, s.1 ++ (get_or cells j 0 ∷ []), s.2, s.3, ap (λ (l : List ℕ). l ++ (get_or cells j 0 ∷ [])) s.4)

  pub path-unique : {j r r' : ℕ} {path path' : List ℕ} → Path roots cells from j r path → Path roots cells from j r' path' → (r ≡ r') × (path ≡ path')
  path-unique (by_root l m) (by_root l' m') = (refl, refl)
  path-unique (by_root l m) (by_cell l' e p) = absurd (omega arith)
  path-unique (by_cell l e p) (by_root l' m) = absurd (omega arith)
  path-unique (by_cell {j = j} {i = i} l e p) (by_cell {i = i'} {r = r'} {path = path'} l' e' p') =
      let o : i' ≡ i = omega arith in
      let u = path-unique p (subst (λ (k : ℕ). Path roots cells from k r' path') o p') in
      (u.0, ap (λ (l : List ℕ). l ++ (get_or cells j 0 ∷ [])) u.1)

  -- what came from a cell has the path of that cell, and one cell more
  pub path-back : {j r : ℕ} {path : List ℕ} → Path roots cells from j r path → (i : ℕ) → get_or from j 0 ≡ roots + i
      → (front : List ℕ) × (path ≡ front ++ (get_or cells j 0 ∷ [])) × Path roots cells from i r front
  path-back (by_root l m) i o = absurd (omega arith)
  path-back (by_cell {i = k} {r = r} {path = path} l e p) i o =
      let s : k ≡ i = omega arith in
      (path, refl, subst (λ (h : ℕ). Path roots cells from h r path) s p)

  -- what came from a root is a path of one cell
  pub path-one : {j r : ℕ} {path : List ℕ} → Path roots cells from j r path → get_or from j 0 < roots → (r ≡ get_or from j 0) × (path ≡ get_or cells j 0 ∷ [])
  path-one (by_root l m) o = (refl, refl)
  path-one (by_cell l e p) o = absurd (omega arith)

module _ {heap : List ℕ} {word : ℕ → ℕ} {roots : ℕ} {cells from : List ℕ} (q : Queued heap word roots cells from) where
  exists_below : (n j : ℕ) → j < n → j < length cells → (r : ℕ) × (path : List ℕ) × Path roots cells from j r path
  exists_below zero j h l = absurd (omega arith)
  exists_below (suc n) j h l =
      elim (dec_lt (get_or from j 0) roots) [
        | yes m ↦ (get_or from j 0, get_or cells j 0 ∷ [], by_root l m)
        | no m ↦
            let i : ℕ = get_or from j 0 - roots in
            let b : i < j = omega (arith, q.earlier j l) in
            let e : get_or from j 0 ≡ roots + i = omega arith in
            let p = exists_below n i (omega arith) (omega arith) in
            (p.0, p.1 ++ (get_or cells j 0 ∷ []), by_cell l e p.2)
      ]

  pub path-exists : (j : ℕ) → j < length cells → (r : ℕ) × (path : List ℕ) × Path roots cells from j r path
  path-exists j l = exists_below (suc j) j (omega arith) l
