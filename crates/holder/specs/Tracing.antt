-- The chain to a cell as it is traced back through the queue, and the root that is looked for: what the parts need and leave. Assumes nothing.
use Rattle.std.specs.Prelude.{ℕ, suc, ◌+◌, ◌-◌, ◌<◌, ◌≤◌, ◌≡◌, Bool, ◌&&◌, List, [], ◌∷◌, ◌++◌, length, get_or, drop, eqb, leb, ltb}
use Rattle.std.specs.Prelude.{Option, Some, None, Result, Ok, Err}
use Rattle.std.specs.Option.{unwrap_or}
use Rattle.cell.specs.Word.{STRUCT, value_of, tag_of, extent, Refers}
use Rattle.machine.specs.declared.Area.TheVariants.{Stack, Control}
use Rattle.machine.specs.declared.Place.{Place}
use Rattle.machine.specs.Layout.{Image, H, N, fixed, reg, field, argument, heap_most}
use Rattle.machine.specs.Roles.{cell, code_of, note_at}
use Rattle.machine.specs.Refusals.{accepted, verdict}
use Rattle.machine.specs.Lowest.{Lowest}
use Rattle.order.specs.Levels.{Starts, levels}
use Rattle.queue.specs.Filled.{entry_of, begins_at}
use Rattle.holder.specs.declared.Held.{Held}
use Rattle.holder.specs.declared.Untold.{Untold}
use Rattle.holder.specs.declared.Untold.TheVariants as untold
use Rattle.holder.specs.Answers.{Told, said_of, Outcome}

-- the cell at place j of the queue
abbrev pub entry_at : List ℕ → ℕ → ℕ
entry_at work j = entry_of (get_or work j 0)

-- whether a word refers to the heap cell x
abbrev pub refers_to : List ℕ → ℕ → ℕ → Bool
refers_to heap w x = leb (value_of w) x && ltb x (value_of w + extent heap w)

-- a STRUCT's functor lies in the heap, so that the word's extent can be read
abbrev pub HasFunctor : List ℕ → ℕ → Type 0
HasFunctor heap w = tag_of w ≡ STRUCT → value_of w < length heap

-- ---- the tests by which places and roots are looked for, each at an index i

unfoldable pub stands_at : List ℕ → ℕ → ℕ → Bool
stands_at work x i = eqb (entry_at work i) x

-- the i-th cell of the queue from place a on refers to x
unfoldable pub parent_from : List ℕ → List ℕ → ℕ → ℕ → ℕ → Bool
parent_from heap work a x i = refers_to heap (get_or heap (entry_at work (a + i)) 0) x

unfoldable pub argument_refers : List ℕ → List ℕ → ℕ → ℕ → Bool
argument_refers control heap x i = refers_to heap (argument control 0 i) x

unfoldable pub cell_refers : List ℕ → List ℕ → List ℕ → ℕ → ℕ → Bool
cell_refers stack heap work x i = eqb (note_at work (length heap) i) (code_of cell) && refers_to heap (get_or stack i 0) x

-- ---- the chain

-- the first n places of the queue hold cells of the heap whose extents can be read
pub record Places (heap work : List ℕ) (n : ℕ) : Type 0 where
  pub room : n ≤ length work
  pub inside : (i : ℕ) → i < n → entry_at work i < length heap
  pub functor : (i : ℕ) → i < n → HasFunctor heap (get_or heap (entry_at work i) 0)

-- the level above that of place k, from a up to, not including, b, has a cell that refers to the one at k
pub record HasParent (heap work : List ℕ) (a b k : ℕ) : Type 0 where
  pub at : ℕ
  pub low : a ≤ at
  pub high : at < b
  pub refers : Refers heap (get_or heap (entry_at work at) 0) (entry_at work k)

-- and so has each of the first n places but those of the first level
pub record Traceable (heap work : List ℕ) (n : ℕ) : Type 0 where
  pub small : length heap ≤ heap_most
  pub places : Places heap work n
  pub top : begins_at work 0 ≡ 1
  pub parents : (a b k : ℕ) → k < n → Starts (begins_at work) b k → 0 < b → Starts (begins_at work) a (b - 1) → HasParent heap work a b k

-- the chain to the cell at place j: a cell of the first level, or the chain to the first cell of the level above that refers to it, and then it
pub data Trace (heap work : List ℕ) : ℕ → List ℕ → Type 0 where
  alone : {j : ℕ} → Starts (begins_at work) 0 j → Trace heap work j (entry_at work j ∷ [])
  after : {a b i j : ℕ} {path : List ℕ} → Starts (begins_at work) b j → 0 < b → Starts (begins_at work) a (b - 1)
      → Lowest (parent_from heap work a (entry_at work j)) (b - a) (Some i) → Trace heap work (a + i) path
      → Trace heap work j (path ++ (entry_at work j ∷ []))

pub record Traced (heap work : List ℕ) (j : ℕ) (room room' : List ℕ) : Type 0 where
  pub path : List ℕ
  pub trace : Trace heap work j path
  pub written : room' ≡ path ++ drop (length path) room

-- ---- the root

-- each root's extent can be read
pub record Arguments (control heap : List ℕ) : Type 0 where
  pub whole : fixed + field control 0 N ≤ length control
  pub functor : (i : ℕ) → i < field control 0 N → HasFunctor heap (argument control 0 i)

pub record Cells (stack heap work : List ℕ) : Type 0 where
  pub room : length heap + length stack ≤ length work
  pub functor : (i : ℕ) → i < length stack → note_at work (length heap) i ≡ code_of cell → HasFunctor heap (get_or stack i 0)

-- the first root that refers to x, "control before stack", or the end of the stack
pub data FirstRoot (control stack heap work : List ℕ) (x : ℕ) : Place → Type 0 where
  in_control : {k : ℕ} → Lowest (argument_refers control heap x) (field control 0 N) (Some k) → FirstRoot control stack heap work x (record { area = Control; index = fixed + k })
  on_stack : (found : Option ℕ) → Lowest (argument_refers control heap x) (field control 0 N) None → Lowest (cell_refers stack heap work x) (length stack) found
      → FirstRoot control stack heap work x (record { area = Stack; index = unwrap_or found (length stack) })

-- ---- both together

-- the queue of the first `tail` places, in which x stands at a place
pub record Searched (control stack heap work : List ℕ) (tail x : ℕ) : Type 0 where
  pub traceable : Traceable heap work tail
  pub arguments : Arguments control heap
  pub cells : Cells stack heap work
  pub at : ℕ
  pub low : at < tail
  pub there : entry_at work at ≡ x

-- the answer and the room for a cell at place j of the queue: the chain has as many cells as levels begin up to there
pub data Answered (control stack heap work : List ℕ) (j : ℕ) (room : List ℕ) : Result Held Untold → List ℕ → Type 0 where
  short : length room < levels (begins_at work) (suc j) → Answered control stack heap work j room (Err untold.RoomShort) room
  found : {path : List ℕ} {root : Place} → levels (begins_at work) (suc j) ≤ length room → Trace heap work j path
      → FirstRoot control stack heap work (get_or path 0 0) root
      → Answered control stack heap work j room (Ok (record { root = root; length = levels (begins_at work) (suc j) })) (path ++ drop (length path) room)

-- a place at which x stands, and the answer there
pub record Holds (control stack heap work : List ℕ) (tail x : ℕ) (room : List ℕ) (r : Result Held Untold) (room' : List ℕ) : Type 0 where
  pub at : ℕ
  pub low : at < tail
  pub there : entry_at work at ≡ x
  pub answered : Answered control stack heap work at room r room'

-- ---- the answer for an image that is admitted

pub record Explained (X : Image) (x : ℕ) (room work work' : List ℕ) (r : Told) (room' : List ℕ) : Type 0 where
  pub outcome : (lent : ℕ) → verdict lent X ≡ accepted → Outcome X lent x room (said_of r) room'
  pub rest : drop (reg X H) work' ≡ drop (reg X H) work
  pub same : length work' ≡ length work
