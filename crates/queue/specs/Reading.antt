-- How far the search has come: in its sources, and in the work words. Assumes nothing.
use Rattle.std.specs.Prelude.{ℕ, ◌+◌, ◌<◌, ◌≤◌, ◌≡◌, ◌⊎◌, ◌↔◌, List, length, get_or}
use Rattle.cell.specs.Word.{Refers}
use Rattle.machine.proofs.Lists.{In}
use Rattle.order.specs.Queue.{source, Queued}
use Rattle.order.specs.Levels.{Levelled}
use Rattle.queue.specs.Filled.{met_bit, entry_of, begins_at}

-- all sources below s have been read, and of the source s the cells below z; the rest is as in `Queued`
pub record Reading (heap : List ℕ) (word : ℕ → ℕ) (roots s z : ℕ) (cells from : List ℕ) : Type 0 where
  pub paired : length from ≡ length cells
  pub earlier : (j : ℕ) → j < length cells → get_or from j 0 < roots + j
  pub come : (j : ℕ) → j < length cells → get_or from j 0 ≤ s
  pub below : (j : ℕ) → j < length cells → get_or from j 0 ≡ s → get_or cells j 0 < z
  pub refers : (j : ℕ) → j < length cells → Refers heap (source heap word roots cells (get_or from j 0)) (get_or cells j 0)
  pub first : (j r : ℕ) → j < length cells → r < get_or from j 0 → Refers heap (source heap word roots cells r) (get_or cells j 0) → ⊥
  pub rising : (j k : ℕ) → j < k → k < length cells → (get_or from j 0 < get_or from k 0) ⊎ ((get_or from j 0 ≡ get_or from k 0) × (get_or cells j 0 < get_or cells k 0))
  pub all : (r x : ℕ) → r < s → Refers heap (source heap word roots cells r) x → In x cells
  pub here : (x : ℕ) → x < z → Refers heap (source heap word roots cells s) x → In x cells

-- the work words hold the queue up to its tail
pub record Holds (queue : List ℕ) (tail : ℕ) (cells : List ℕ) : Type 0 where
  pub count : length cells ≡ tail
  pub entries : (j : ℕ) → j < tail → entry_of (get_or queue j 0) ≡ get_or cells j 0
  pub met : (x : ℕ) → x < length queue → (met_bit (get_or queue x 0) ≡ 1) ↔ In x cells
  pub low : (x : ℕ) → In x cells → x < length queue

-- the sources below s have been read into the work words
pub record Searched (heap : List ℕ) (word : ℕ → ℕ) (roots s : ℕ) (queue : List ℕ) (tail : ℕ) : Type 0 where
  pub cells : List ℕ
  pub from : List ℕ
  pub reading : Reading heap word roots s 0 cells from
  pub holds : Holds queue tail cells

-- all sources have been read into the work words, with the levels
pub record Followed (heap : List ℕ) (word : ℕ → ℕ) (roots : ℕ) (queue : List ℕ) (tail : ℕ) : Type 0 where
  pub cells : List ℕ
  pub from : List ℕ
  pub queued : Queued heap word roots cells from
  pub levelled : Levelled (begins_at queue) roots from
  pub holds : Holds queue tail cells
  pub most : tail ≤ length queue
