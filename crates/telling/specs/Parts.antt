-- What the inner functions promise one another. No public promise cites this page. Assumes nothing.
use Rattle.std.specs.Prelude.{ℕ, ◌+◌, ◌-◌, ◌≤◌, ◌<◌, ◌≡◌, List, length, get_or}
use Rattle.machine.specs.declared.Area.{Area}
use Rattle.machine.specs.Layout.{Image, N, fixed, frame_fixed}
use Rattle.machine.specs.Chains.{frame, point, walk}
use Rattle.machine.specs.Roles.{Role, cell, CE, own, code_of}
use Rattle.machine.specs.Refusals.{accepted, verdict}
use Rattle.machine.specs.Answers.{work_after}
use Rattle.order.specs.Chains.{RootAt}
use Rattle.holder.specs.Answers.{Told, Explains}
use Rattle.telling.specs.declared.owners.Owner.{Owner}
use Rattle.telling.specs.declared.owners.Owner.TheVariants.{Frame, Point}
use Rattle.telling.specs.Text.{member_text, owner_text}

-- ---- whose cell a stack word is

-- the text of the frame or choice point that begins there; how large it is and where it must have ended is not told
unfoldable pub own_text : ℕ → Owner → List ℕ
own_text i (Frame e) = member_text i (frame e 0 0)
own_text i (Point b) = member_text i (point b 0 0 0)

-- where its cells begin, and the field that stands before them
abbrev pub cells_from : Owner → ℕ
cells_from (Frame e) = e + frame_fixed
cells_from (Point b) = b + fixed

abbrev pub last_field : Owner → Role
last_field (Frame e) = CE
last_field (Point b) = own N

-- the notes show it: its last field, and after that nothing but cells up to the word i
pub record Shown (notes : List ℕ) (i : ℕ) (owner : Owner) : Type 0 where
  pub low : cells_from owner ≤ i
  pub last : get_or notes (cells_from owner - 1) 0 ≡ code_of (last_field owner)
  pub cells : (j : ℕ) → cells_from owner ≤ j → j ≤ i → get_or notes j 0 ≡ code_of cell

pub record Owned (notes : List ℕ) (i : ℕ) : Type 0 where
  pub inside : i < length notes
  pub owner : Owner
  pub shown : Shown notes i owner

-- it is the one that the text speaks of
pub record Owns (X : Image) (i : ℕ) (owner : Owner) : Type 0 where
  pub low : cells_from owner ≤ i
  pub text : owner_text X i (walk X) ≡ own_text i owner

-- ---- the root's line

-- a root of an accepted image; the work words are as the call that named the root left them
pub record Rooted (X : Image) (work : List ℕ) (area : Area) (index : ℕ) : Type 0 where
  pub lent : List ℕ
  pub passes : verdict (length lent) X ≡ accepted
  pub cleared : work ≡ work_after X lent
  pub word : ℕ
  pub root : RootAt X area index word

-- the longest of what a root is, and of where it stands
abbrev pub kind_most : ℕ
kind_most = 79

abbrev pub site_most : ℕ
site_most = 31

-- ---- the chain's lines

-- the first of these words, so many of them, are indexes of the heap
pub record Indexes (heap room : List ℕ) (count : ℕ) : Type 0 where
  pub fits : count ≤ length room
  pub inside : (i : ℕ) → i < count → get_or room i 0 < length heap

-- ---- the whole text

-- an answer, with what its call left of the work words and of the room
pub record Answered (X : Image) (work : List ℕ) (why : Told) (room : List ℕ) : Type 0 where
  pub asked : ℕ
  pub lent_work : List ℕ
  pub lent_room : List ℕ
  pub explains : Explains X lent_work asked lent_room why work room
