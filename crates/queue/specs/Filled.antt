-- What the search leaves in the work words below H. The word at j holds three things: its last bit says whether the heap cell j has been met, the
-- next whether a level of the queue begins at place j, and the rest is the cell at place j of the queue. Assumes nothing.
use Rattle.std.specs.Prelude.{ℕ, ◌+◌, ◌-◌, ◌/◌, ◌%◌, ◌<◌, ◌≤◌, ◌≡◌, ◌↔◌, List, length, get_or, drop, eqb, ltb}
use Rattle.cell.specs.Word.{pick, CONST}
use Rattle.cell.specs.Word as words
use Rattle.machine.specs.Layout.{H, N, field, argument}
use Rattle.machine.specs.Roles.{cell, code_of, note_at}
use Rattle.machine.proofs.Lists.{In}
use Rattle.order.specs.Queue.{Queued}
use Rattle.order.specs.Levels.{Levelled}

abbrev pub met_bit : ℕ → ℕ
met_bit w = w % 2

abbrev pub level_bit : ℕ → ℕ
level_bit w = w / 2 % 2

abbrev pub entry_of : ℕ → ℕ
entry_of w = w / 4

abbrev pub begins_at : List ℕ → ℕ → ℕ
begins_at work j = level_bit (get_or work j 0)

-- a word that refers to nothing, for the stack words that are no cells
abbrev pub nothing : ℕ
nothing = words.cell 0 CONST

-- the roots in the order of their places, control before stack: the saved arguments, then one for each stack word, as the notes say which are cells
unfoldable pub root_word : List ℕ → List ℕ → List ℕ → List ℕ → ℕ → ℕ
root_word control stack heap work s =
    let i = s - field control 0 N in
    pick (ltb s (field control 0 N)) (argument control 0 s) (pick (eqb (note_at work (length heap) i) (code_of cell)) (get_or stack i 0) nothing)

abbrev pub root_count : List ℕ → List ℕ → ℕ
root_count control stack = field control 0 N + length stack

-- the search has met `tail` cells
pub record Filled (control stack heap work work' : List ℕ) (tail : ℕ) : Type 0 where
  pub cells : List ℕ
  pub from : List ℕ
  pub queued : Queued heap (root_word control stack heap work) (root_count control stack) cells from
  pub levelled : Levelled (begins_at work') (root_count control stack) from
  pub count : length cells ≡ tail
  pub most : tail ≤ field control 0 H
  pub entries : (j : ℕ) → j < tail → entry_of (get_or work' j 0) ≡ get_or cells j 0
  pub met : (x : ℕ) → x < field control 0 H → (met_bit (get_or work' x 0) ≡ 1) ↔ In x cells
  pub low : (x : ℕ) → In x cells → x < field control 0 H
  pub rest : drop (field control 0 H) work' ≡ drop (field control 0 H) work
  pub same : length work' ≡ length work
