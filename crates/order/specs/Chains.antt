-- Why a heap cell is held: the chains that lead to it from a root, and which of them is the best. Document 02, order 4. Assumes nothing.
use Rattle.std.specs.Prelude.{ℕ, ◌+◌, ◌<◌, ◌≡◌, ◌⊎◌, true, List, [], ◌∷◌, ◌++◌, length, get_or}
use Rattle.cell.specs.Word.{Refers}
use Rattle.machine.specs.declared.Area.{Area}
use Rattle.machine.specs.declared.Area.TheVariants.{Heap, Stack, Control, Trail}
use Rattle.machine.specs.Layout.{Image, N, fixed, reg, argument, word}
use Rattle.machine.specs.Roles.{is_cell}

-- "a root (control argument, frame cell or saved argument, by area and index)": where it stands, and its word
pub data RootAt (X : Image) : Area → ℕ → ℕ → Type 0 where
  in_control : (i : ℕ) → i < reg X N → RootAt X Control (fixed + i) (argument X.control 0 i)
  on_stack : (i : ℕ) → is_cell X i ≡ true → RootAt X Stack i (word X i)

-- "then heap cells down to the asked one, each referring to the next"
pub data Chain (X : Image) (area : Area) (index : ℕ) : List ℕ → ℕ → Type 0 where
  direct : {w x : ℕ} → RootAt X area index w → Refers X.heap w x → Chain X area index (x ∷ []) x
  onward : {cells : List ℕ} {y x : ℕ} → Chain X area index cells y → Refers X.heap (get_or X.heap y 0) x → Chain X area index (cells ++ (x ∷ [])) x

-- "control before stack"; no root stands in the other areas
abbrev pub rank : Area → ℕ
rank Control = 0
rank Stack = 1
rank Heap = 2
rank Trail = 3

-- the places of a chain "from the root on"
abbrev pub places : Area → ℕ → List ℕ → List ℕ
places area index cells = rank area ∷ index ∷ cells

-- the first place that differs is the lower one
pub data NotAbove : List ℕ → List ℕ → Type 0 where
  ended : {ys : List ℕ} → NotAbove [] ys
  lower : {x y : ℕ} {xs ys : List ℕ} → x < y → NotAbove (x ∷ xs) (y ∷ ys)
  same : {x : ℕ} {xs ys : List ℕ} → NotAbove xs ys → NotAbove (x ∷ xs) (x ∷ ys)

-- shorter, or as long and not above
abbrev pub NotAfter : List ℕ → List ℕ → Type 0
NotAfter xs ys = (length xs < length ys) ⊎ ((length xs ≡ length ys) × NotAbove xs ys)

-- "It is the shortest, and among equals has the lowest places from the root on": no chain to the same cell comes before it
pub record Best (X : Image) (x : ℕ) (area : Area) (index : ℕ) (cells : List ℕ) : Type 0 where
  pub chain : Chain X area index cells x
  pub best : (area' : Area) (index' : ℕ) (cells' : List ℕ) → Chain X area' index' cells' x → NotAfter (places area index cells) (places area' index' cells')
