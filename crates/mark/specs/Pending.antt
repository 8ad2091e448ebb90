-- The pending stack, linked through the work words: `top` is 0 where it is empty, and x + 1 where the cell x is on top; the word of a
-- pending cell is one more than the `top` below it. So a marked cell's word is never 0, and each cell is pushed at most once: one that
-- refers to nothing needs no look, and its word is 1. Assumes nothing.
use Rattle.std.specs.Prelude.{ℕ, zero, suc, ◌+◌, ◌-◌, ◌≤◌, ◌<◌, ◌≡◌, ◌⊎◌, ◌↔◌, List, [], ◌∷◌, get_or, set, length}
use Rattle.cell.specs.Word.{Refers}
use Rattle.machine.specs.Layout.{heap_most}
use Rattle.machine.proofs.Lists.{In}
use Rattle.mark.specs.Marks.{Marked, Within}

-- the cells pending, the top one first
abbrev pub Chain : List ℕ → ℕ → List ℕ → Type 0
Chain marks top [] = top ≡ 0
Chain marks top (x ∷ pending) = (top ≡ x + 1) × (x < length marks) × Marked marks x × Chain marks (get_or marks x 0 - 1) pending

unfoldable pub unmarked : List ℕ → ℕ
unmarked [] = 0
unmarked (zero ∷ ws) = suc (unmarked ws)
unmarked (suc w ∷ ws) = unmarked ws

-- from a up to, not including, z
abbrev pub Range : ℕ → ℕ → ℕ → Type 0
Range a z x = (a ≤ x) × (x < z)

-- the cell x refers to nothing
abbrev pub Leaf : List ℕ → ℕ → Type 0
Leaf heap x = (y : ℕ) → Refers heap (get_or heap x 0) y → ⊥

-- what pushing the cells of P needs
pub record Pushable (heap : List ℕ) (P : ℕ → Type 0) (marks : List ℕ) (top : ℕ) : Type 0 where
  pub inside : (x : ℕ) → P x → x < length marks
  pub deep : length marks ≤ length heap
  pub small : length marks ≤ heap_most
  pub low : top ≤ length marks

-- cells of P that were not marked have been marked, one after the other; each was pushed, or refers to nothing
pub data Grown (heap : List ℕ) (P : ℕ → Type 0) (marks : List ℕ) (top : ℕ) : List ℕ → ℕ → Type 0 where
  none : Grown heap P marks top marks top
  more : {m : List ℕ} {t : ℕ} → Grown heap P marks top m t → (x : ℕ) → P x → x < length m → get_or m x 0 ≡ 0 → Grown heap P marks top (set m x (t + 1)) (x + 1)
  leaf : {m : List ℕ} {t : ℕ} → Grown heap P marks top m t → (x : ℕ) → P x → x < length m → get_or m x 0 ≡ 0 → Leaf heap x → Grown heap P marks top (set m x 1) t

-- and every cell of P is marked now
pub record Pushed (heap : List ℕ) (P : ℕ → Type 0) (marks : List ℕ) (top : ℕ) (marks' : List ℕ) (top' : ℕ) : Type 0 where
  pub grown : Grown heap P marks top marks' top'
  pub all : (x : ℕ) → P x → Marked marks' x
  pub same : length marks' ≡ length marks
  pub small : top ≤ length marks → top' ≤ length marks

-- a marked cell is pending, or all that it refers to is marked
pub record Ready (heap marks : List ℕ) (top : ℕ) : Type 0 where
  pub pending : List ℕ
  pub chain : Chain marks top pending
  pub room : unmarked marks + length pending ≤ length marks
  pub closed : (x : ℕ) → Marked marks x → In x pending ⊎ ((y : ℕ) → Refers heap (get_or heap x 0) y → Marked marks y)

-- no cell below h refers to h or above
abbrev pub Inside : ℕ → List ℕ → Type 0
Inside h heap = (y : ℕ) → y < h → Within h heap (get_or heap y 0)

-- reached from the cells that are marked, in any number of steps
pub data Follows (heap marks : List ℕ) : ℕ → Type 0 where
  here : {x : ℕ} → Marked marks x → Follows heap marks x
  next : {y x : ℕ} → Follows heap marks y → Refers heap (get_or heap y 0) x → Follows heap marks x

pub record Drained (heap marks marks' : List ℕ) : Type 0 where
  pub exactly : (x : ℕ) → Marked marks' x ↔ Follows heap marks x
  pub same : length marks' ≡ length marks
