-- What marking starts from, needs and leaves. A heap cell is marked where its work word is not 0. Assumes nothing.
use Rattle.std.specs.Prelude.{ℕ, ◌+◌, ◌<◌, ◌≤◌, ◌≡◌, ◌↔◌, List, length, get_or, drop}
use Rattle.cell.specs.Word.{Refers}
use Rattle.machine.specs.Layout.{H, N, fixed, field, argument, heap_most}
use Rattle.machine.specs.Roles.{cell, code_of, note_at}
use Rattle.machine.specs.Reached.{Reach}
use Rattle.machine.proofs.Accepted.{To}

abbrev pub Marked : List ℕ → ℕ → Type 0
Marked work x = 0 < get_or work x 0

-- the roots, as the notes say: the note of the stack word i stands in the work words after the heap's
pub data Start (control stack heap work : List ℕ) : ℕ → Type 0 where
  in_control : (i : ℕ) → i < field control 0 N → Start control stack heap work (argument control 0 i)
  on_stack : (i : ℕ) → i < length stack → note_at work (length heap) i ≡ code_of cell → Start control stack heap work (get_or stack i 0)

-- all that w refers to lies below h
abbrev pub Within : ℕ → List ℕ → ℕ → Type 0
Within h heap w = (x : ℕ) → Refers heap w x → x < h

-- a word that is a cell: a heap cell below H, or a root
pub data AnyCell (control stack heap work : List ℕ) : ℕ → Type 0 where
  on_heap : (y : ℕ) → y < field control 0 H → AnyCell control stack heap work (get_or heap y 0)
  root : {w : ℕ} → Start control stack heap work w → AnyCell control stack heap work w

-- x is the first cell of a STRUCT among Words
pub record FirstAmong (Words : ℕ → Type 0) (x : ℕ) : Type 0 where
  pub word : ℕ
  pub among : Words word
  pub to : To word x

-- refusal 17: no cell that a word among Words refers to, but a STRUCT's own first cell, is a first cell
abbrev pub ClearAmong : List ℕ → (ℕ → Type 0) → Type 0
ClearAmong heap Words = (w : ℕ) → Words w → (x : ℕ) → Refers heap w x → (To w x → ⊥) → FirstAmong Words x → ⊥

pub record Markable (control stack heap work : List ℕ) : Type 0 where
  pub room : length heap + length stack ≤ length work
  pub small : length heap ≤ heap_most
  pub arguments : fixed + field control 0 N ≤ length control
  pub top : field control 0 H ≤ length heap
  pub unmarked : (x : ℕ) → x < field control 0 H → get_or work x 0 ≡ 0
  pub cells : (y : ℕ) → y < field control 0 H → Within (field control 0 H) heap (get_or heap y 0)
  pub roots : (w : ℕ) → Start control stack heap work w → Within (field control 0 H) heap w
  pub clear : ClearAmong heap (AnyCell control stack heap work)

-- exactly what is reached from the roots is marked below H, and all other work words stay
pub record MarksReached (control stack heap work work' : List ℕ) : Type 0 where
  pub exactly : (x : ℕ) → x < field control 0 H → Marked work' x ↔ Reach heap (Start control stack heap work) x
  pub rest : drop (field control 0 H) work' ≡ drop (field control 0 H) work
  pub same : length work' ≡ length work
