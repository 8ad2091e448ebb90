-- What `why_held` answers and promises. Document 02, order 4. Assumes nothing.
use Rattle.std.specs.Prelude.{ℕ, ◌<◌, ◌≤◌, ◌≡◌, ◌≢◌, List, ◌++◌, length, drop, Option, Some, None, Result, Ok, Err}
use Rattle.machine.specs.declared.Area.{Area}
use Rattle.machine.specs.Layout.{Image, H, reg}
use Rattle.machine.specs.Reached.{Reached}
use Rattle.machine.specs.Refusals.{nowhere, Verdict, accepted, refused, verdict}
use Rattle.machine.specs.Answers.{verdict_of, work_after}
use Rattle.holder.specs.declared.Held.{Held}
use Rattle.holder.specs.declared.Untold.{Untold}
use Rattle.holder.specs.declared.Untold.TheVariants as untold
use Rattle.order.specs.Chains.{Best}

-- "the root stands in the answer", and with it the chain's length
pub data Said : Type 0 where
  held : (area : Area) (index length : ℕ) → Said
  dead : Said
  refusal : Verdict → Said

-- "18, index at or above H"; "19, the chain is longer than the room"
abbrev pub above : Verdict
above = refused 18 nowhere

abbrev pub long : Verdict
long = refused 19 nowhere

-- what each case of the answer says
abbrev pub Told : Type 0
Told = Result (Option Held) Untold

unfoldable pub said_of : Told → Said
said_of (Ok (Some h)) = held h.root.area h.root.index h.length
said_of (Ok None) = dead
said_of (Err untold.NoCell) = refusal above
said_of (Err untold.RoomShort) = refusal long
said_of (Err (untold.Image r)) = refusal (verdict_of r)

-- what is said of the cell x, and the room afterwards. "Exactly the cells that no chain reaches are answered as dead. The lent room takes the heap
-- indexes; .. the rest of the room stays. Refusals: the collector's; then 18 ..; then 19 ... no refusal [changes] the room."
pub data Outcome (X : Image) (lent x : ℕ) (room : List ℕ) : Said → List ℕ → Type 0 where
  refused_image : verdict lent X ≢ accepted → Outcome X lent x room (refusal (verdict lent X)) room
  no_cell : verdict lent X ≡ accepted → reg X H ≤ x → Outcome X lent x room (refusal above) room
  is_dead : verdict lent X ≡ accepted → x < reg X H → (Reached X x → ⊥) → Outcome X lent x room dead room
  room_short : {area : Area} {index : ℕ} {cells : List ℕ} → verdict lent X ≡ accepted → x < reg X H → Best X x area index cells
      → length room < length cells → Outcome X lent x room (refusal long) room
  is_held : {area : Area} {index : ℕ} {cells : List ℕ} → verdict lent X ≡ accepted → x < reg X H → Best X x area index cells
      → length cells ≤ length room → Outcome X lent x room (held area index (length cells)) (cells ++ drop (length cells) room)

-- What `why_held` promises, of every image X, lent work, cell x and lent room. "No call changes an area": none is lent to be written.
pub record Explains (X : Image) (work : List ℕ) (x : ℕ) (room : List ℕ) (r : Told) (work' room' : List ℕ) : Type 0 where
  pub outcome : Outcome X (length work) x room (said_of r) room'
  pub cleared : work' ≡ work_after X work
