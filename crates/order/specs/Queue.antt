-- The order in which a breadth-first search meets the heap cells. Its sources are read one after the other: first the roots, `roots` of them, the
-- s-th being the word `word s`, then the cells of the queue in their order. Each cell joins the queue when the first source that refers to it is
-- read, the cells of one source in rising order. Assumes nothing.
use Rattle.std.specs.Prelude.{ℕ, ◌+◌, ◌-◌, ◌<◌, ◌≡◌, ◌⊎◌, List, [], ◌∷◌, ◌++◌, length, get_or, ltb}
use Rattle.cell.specs.Word.{pick, Refers}
use Rattle.machine.proofs.Lists.{In}

-- the word of the source s, the cells being those of the queue
unfoldable pub source : List ℕ → (ℕ → ℕ) → ℕ → List ℕ → ℕ → ℕ
source heap word roots cells s = pick (ltb s roots) (word s) (get_or heap (get_or cells (s - roots) 0) 0)

-- `cells` is the queue when all sources have been read, and `from` gives for each place of it the source that it came from
pub record Queued (heap : List ℕ) (word : ℕ → ℕ) (roots : ℕ) (cells from : List ℕ) : Type 0 where
  pub paired : length from ≡ length cells
  pub earlier : (j : ℕ) → j < length cells → get_or from j 0 < roots + j
  pub refers : (j : ℕ) → j < length cells → Refers heap (source heap word roots cells (get_or from j 0)) (get_or cells j 0)
  pub first : (j s : ℕ) → j < length cells → s < get_or from j 0 → Refers heap (source heap word roots cells s) (get_or cells j 0) → ⊥
  pub rising : (j k : ℕ) → j < k → k < length cells → (get_or from j 0 < get_or from k 0) ⊎ ((get_or from j 0 ≡ get_or from k 0) × (get_or cells j 0 < get_or cells k 0))
  pub all : (s x : ℕ) → s < roots + length cells → Refers heap (source heap word roots cells s) x → In x cells

-- the chain of cells by which the queue came to its place j, and the root that it starts from
pub data Path (roots : ℕ) (cells from : List ℕ) : ℕ → ℕ → List ℕ → Type 0 where
  by_root : {j : ℕ} → j < length cells → get_or from j 0 < roots → Path roots cells from j (get_or from j 0) (get_or cells j 0 ∷ [])
  by_cell : {j i r : ℕ} {path : List ℕ} → j < length cells → get_or from j 0 ≡ roots + i → Path roots cells from i r path
      → Path roots cells from j r (path ++ (get_or cells j 0 ∷ []))

-- a chain from the root s, by its number among the roots
pub data Line (heap : List ℕ) (word : ℕ → ℕ) (roots : ℕ) (s : ℕ) : List ℕ → ℕ → Type 0 where
  direct : {x : ℕ} → s < roots → Refers heap (word s) x → Line heap word roots s (x ∷ []) x
  onward : {cells : List ℕ} {y x : ℕ} → Line heap word roots s cells y → Refers heap (get_or heap y 0) x → Line heap word roots s (cells ++ (x ∷ [])) x
