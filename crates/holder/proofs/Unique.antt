-- What is said of a cell, and the room afterwards, are determined: no two cases of the outcome apply together, and the best chain is one.
-- Assumes nothing.
use Prim.Native.Nat.{ℕ, ◌<◌, ◌≤◌}
use mathlib.Core.Path.{◌≡◌, refl, ap}
use mathlib.Core.List.{List, ◌++◌}
use native.Mathlib.Omega.{arith}
use lib.ListN.{length, drop}
use Rattle.machine.specs.declared.Area.{Area}
use Rattle.machine.specs.Layout.{Image}
use Rattle.order.specs.Chains.{Best}
use Rattle.order.proofs.Chains.{chain-reached, best-unique}
use Rattle.holder.specs.Answers.{Said, Outcome, refused_image, no_cell, is_dead, room_short, is_held}

-- one chain as long as another is not both within the room and longer than it
both-lengths : {X : Image} {x n : ℕ} {area area' : Area} {index index' : ℕ} {cells cells' : List ℕ} → Best X x area index cells → Best X x area' index' cells' → n < length cells → length cells' ≤ n → ⊥
both-lengths b b' l m = omega (arith, ap length (best-unique b b').2)

pub outcome-unique : {X : Image} {lent x : ℕ} {room : List ℕ} {s s' : Said} {room' room'' : List ℕ} → Outcome X lent x room s room' → Outcome X lent x room s' room'' → (s ≡ s') × (room' ≡ room'')
outcome-unique (refused_image n) (refused_image n') = (refl, refl)
outcome-unique (refused_image n) (no_cell v l) = absurd (n v)
outcome-unique (refused_image n) (is_dead v l d) = absurd (n v)
outcome-unique (refused_image n) (room_short v l b m) = absurd (n v)
outcome-unique (refused_image n) (is_held v l b m) = absurd (n v)
outcome-unique (no_cell v l) (refused_image n) = absurd (n v)
outcome-unique (no_cell v l) (no_cell v' l') = (refl, refl)
outcome-unique (no_cell v l) (is_dead v' l' d) = absurd (omega arith)
outcome-unique (no_cell v l) (room_short v' l' b m) = absurd (omega arith)
outcome-unique (no_cell v l) (is_held v' l' b m) = absurd (omega arith)
outcome-unique (is_dead v l d) (refused_image n) = absurd (n v)
outcome-unique (is_dead v l d) (no_cell v' l') = absurd (omega arith)
outcome-unique (is_dead v l d) (is_dead v' l' d') = (refl, refl)
outcome-unique (is_dead v l d) (room_short v' l' b m) = absurd (d (chain-reached b.chain))
outcome-unique (is_dead v l d) (is_held v' l' b m) = absurd (d (chain-reached b.chain))
outcome-unique (room_short v l b m) (refused_image n) = absurd (n v)
outcome-unique (room_short v l b m) (no_cell v' l') = absurd (omega arith)
outcome-unique (room_short v l b m) (is_dead v' l' d) = absurd (d (chain-reached b.chain))
outcome-unique (room_short v l b m) (room_short v' l' b' m') = (refl, refl)
outcome-unique (room_short v l b m) (is_held v' l' b' m') = absurd (both-lengths b b' m m')
outcome-unique (is_held v l b m) (refused_image n) = absurd (n v)
outcome-unique (is_held v l b m) (no_cell v' l') = absurd (omega arith)
outcome-unique (is_held v l b m) (is_dead v' l' d) = absurd (d (chain-reached b.chain))
outcome-unique (is_held v l b m) (room_short v' l' b' m') = absurd (both-lengths b' b m' m)
outcome-unique {room = room} (is_held {area = area} {index = index} {cells = cells} v l b m) (is_held {area = area'} {index = index'} {cells = cells'} v' l' b' m') =
    let e = best-unique b b' in
    (cc (e.0, e.1, ap length e.2), ap (λ (path : List ℕ). path ++ drop (length path) room) e.2)
