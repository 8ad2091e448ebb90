-- What the searches for a chain end at: a search of the level above for the first cell that refers to the last one of a path finds the cell before
-- it, and a search of the roots by their places finds the root of the path. Since a cell's source is the first that refers to it. Assumes nothing.
use Prim.Native.Nat.{ℕ, ◌+◌, ◌-◌, ◌<◌, ◌≤◌}
use mathlib.Core.Path.{◌≡◌, refl, ap, subst}
use mathlib.Core.Logic.{◌⊎◌, inl, inr}
use mathlib.Core.Bool.{true}
use mathlib.Core.List.{List, [], ◌∷◌, ◌++◌}
use native.Mathlib.Omega.{arith}
use native.Mathlib.Decide.{dec_lt, ℕ_discrete}
use lib.ListN.{length, get_or, length-append}
use Rattle.cell.specs.Word.{Refers}
use Rattle.machine.specs.declared.Area.TheVariants.{Stack, Control}
use Rattle.machine.specs.Layout.{Image, N, fixed, reg, argument}
use Rattle.machine.specs.Layout as layout
use Rattle.machine.specs.Roles.{is_cell}
use Rattle.machine.proofs.Tests.{either}
use Rattle.order.specs.Queue.{Queued, Path, by_root, by_cell}
use Rattle.order.specs.Levels.{Starts, Levelled}
use Rattle.order.proofs.Paths.{path-low, path-root, path-long, path-one, path-back}
use Rattle.order.proofs.Lines.{root-refers, root_is}
use Rattle.order.proofs.Levels.{parent, parent_is, top_from}
use Rattle.order.proofs.Roots.{RootsOf, Stands, saved, cell}

-- ---- the cell before the last

-- a path of one cell
pub path-single : {roots : ℕ} {cells from : List ℕ} {j r : ℕ} {path : List ℕ} → Path roots cells from j r path → length path ≡ 1 → path ≡ get_or cells j 0 ∷ []
path-single (by_root l m) e = refl
path-single {cells = cells} (by_cell {j = j} {path = path} l o p) e = absurd (omega (arith, path-long p, length-append path (get_or cells j 0 ∷ [])))

module _ {heap : List ℕ} {word : ℕ → ℕ} {roots : ℕ} {cells from : List ℕ} {begins : ℕ → ℕ} (q : Queued heap word roots cells from) (v : Levelled begins roots from) where
  -- a longer path ends below the first level
  pub path-below : {b j r : ℕ} {path : List ℕ} → Path roots cells from j r path → Starts begins b j → 1 < length path → 0 < b
  path-below {b} {j} p s l =
      elim (ℕ_discrete b 0) [
        | yes e ↦ absurd (omega (arith, ap length (path-one p (top_from q v j (path-low p) (subst (λ (a : ℕ). Starts begins a j) e s))).1))
        | no n ↦ omega arith
      ]

  -- the first of the level above that refers to its last cell is the one before it
  pub path_parent : {a b j r : ℕ} {path : List ℕ} → Path roots cells from j r path → Starts begins b j → 0 < b → Starts begins a (b - 1)
      → (i : ℕ) → Refers heap (get_or heap (get_or cells i 0) 0) (get_or cells j 0)
      → ((k : ℕ) → a ≤ k → k < i → Refers heap (get_or heap (get_or cells k 0) 0) (get_or cells j 0) → ⊥)
      → (front : List ℕ) × (path ≡ front ++ (get_or cells j 0 ∷ [])) × Path roots cells from i r front × Starts begins a i
  path_parent {a} {b} {j} p s l t i f g =
      let u = parent q v j (path-low p) s l t in
      let e : i ≡ u.at = parent_is u i f g in
      let k = path-back p i (rw e u.came) in
      (k.0, k.1, k.2, rw e u.level)

-- ---- the root

module _ {X : Image} {word : ℕ → ℕ} {roots : ℕ} (o : RootsOf X word roots) {cells from : List ℕ} (q : Queued X.heap word roots cells from) where
  -- a saved argument or a cell of the stack refers to the first cell
  pub root-cases : {j r : ℕ} {path : List ℕ} → Path roots cells from j r path
      → ((i : ℕ) × (i < reg X N) × Refers X.heap (argument X.control 0 i) (get_or path 0 0))
      ⊎ ((i : ℕ) × (i < length X.stack) × (is_cell X i ≡ true) × Refers X.heap (layout.word X i) (get_or path 0 0))
  root-cases {r = r} {path = path} p =
      elim (dec_lt r (reg X N)) [
        | yes l ↦ inl (r, l, rw (o.saved r l) at (root-refers q p))
        | no l ↦
            let i : ℕ = r - reg X N in
            let e : r ≡ reg X N + i = omega arith in
            let b : i < length X.stack = omega (arith, o.count, path-root p) in
            let f = rw e at (root-refers q p) in
            elim (either (is_cell X i)) [
              | inl c ↦ inr (i, b, c, rw (o.cell i b c) at f)
              | inr c ↦ absurd (o.other i b c (get_or path 0 0) f)
            ]
      ]

  -- the first saved argument that refers to it is the root
  pub root-saved : {j r : ℕ} {path : List ℕ} → Path roots cells from j r path → (i : ℕ) → i < reg X N → Refers X.heap (argument X.control 0 i) (get_or path 0 0)
      → ((k : ℕ) → k < i → Refers X.heap (argument X.control 0 k) (get_or path 0 0) → ⊥) → Stands X r Control (fixed + i)
  root-saved p i l f g =
      let e = root_is q p i (omega (arith, o.count)) (rw (o.saved i l) f) (λ t m h. g t m (rw (o.saved t (omega arith)) at h)) in
      subst (λ (s : ℕ). Stands X s Control (fixed + i)) e (saved i l)

  -- else the first cell of the stack that does
  pub root-cell : {j r : ℕ} {path : List ℕ} → Path roots cells from j r path → ((k : ℕ) → k < reg X N → Refers X.heap (argument X.control 0 k) (get_or path 0 0) → ⊥)
      → (i : ℕ) → is_cell X i ≡ true → Refers X.heap (layout.word X i) (get_or path 0 0)
      → ((k : ℕ) → k < i → is_cell X k ≡ true → Refers X.heap (layout.word X k) (get_or path 0 0) → ⊥) → Stands X r Stack i
  root-cell {path = path} p n i c f g =
      let l = o.inside i c in
      let e = root_is q p (reg X N + i) (omega (arith, o.count)) (rw (o.cell i l c) f) before in
      subst (λ (s : ℕ). Stands X s Stack i) e (cell i)
    where
      before : (t : ℕ) → t < reg X N + i → Refers X.heap (word t) (get_or path 0 0) → ⊥
      before t m h =
          elim (dec_lt t (reg X N)) [
            | yes b ↦ n t b (rw (o.saved t b) at h)
            | no b ↦
                let k : ℕ = t - reg X N in
                let e : t ≡ reg X N + k = omega arith in
                let b : k < length X.stack = omega (arith, o.inside i c) in
                let h' = rw e at h in
                elim (either (is_cell X k)) [
                  | inl c ↦ g k (omega arith) c (rw (o.cell k b c) at h')
                  | inr c ↦ o.other k b c (get_or path 0 0) h'
                ]
          ]
