-- Chains of an image: they reach exactly what is reached, and the best to a cell is one. By root and reference, one at a time; and by the order of
-- chains, in which two that come before each other are the same. Assumes nothing.
use Prim.Native.Nat.{ℕ, ◌+◌}
use mathlib.Core.Path.{◌≡◌, refl}
use mathlib.Core.List.{List, [], ◌∷◌, ◌++◌}
use native.Mathlib.Omega.{arith}
use Rattle.machine.specs.declared.Area.{Area}
use Rattle.machine.specs.declared.Area.TheVariants.{Stack, Control}
use Rattle.machine.specs.Layout.{Image, fixed}
use Rattle.machine.specs.Reached.{Root, from_root, from_cell, Reached}
use Rattle.order.specs.Chains.{RootAt, in_control, on_stack, Chain, direct, onward, rank, places, Best}
use Rattle.order.proofs.Orders.{after-antisym}

-- ---- what chains reach

root-plain : {X : Image} {area : Area} {index w : ℕ} → RootAt X area index w → Root X w
root-plain (in_control i l) = Root.in_control i l
root-plain (on_stack i e) = Root.on_stack i e

root-place : {X : Image} {w : ℕ} → Root X w → (area : Area) × (index : ℕ) × RootAt X area index w
root-place (Root.in_control i l) = (Control, fixed + i, in_control i l)
root-place (Root.on_stack i e) = (Stack, i, on_stack i e)

pub chain-reached : {X : Image} {area : Area} {index x : ℕ} {cells : List ℕ} → Chain X area index cells x → Reached X x
chain-reached (direct r f) = from_root (root-plain r) f
chain-reached (onward c f) = from_cell (chain-reached c) f

pub reached-chain : {X : Image} {x : ℕ} → Reached X x → (area : Area) × (index : ℕ) × (cells : List ℕ) × Chain X area index cells x
reached-chain (from_root {x = x} o f) = let p = root-place o in (p.0, p.1, x ∷ [], direct p.2 f)
reached-chain (from_cell {x = x} h f) = let p = reached-chain h in (p.0, p.1, p.2 ++ (x ∷ []), onward p.3 f)

-- ---- the best chain is one

pub chain-root : {X : Image} {area : Area} {index x : ℕ} {cells : List ℕ} → Chain X area index cells x → (w : ℕ) × RootAt X area index w
chain-root (direct {w = w} r f) = (w, r)
chain-root (onward c f) = chain-root c

-- the rank of a root's area tells the area
same_area : {X : Image} {area area' : Area} {index index' w w' : ℕ} → RootAt X area index w → RootAt X area' index' w' → rank area ≡ rank area' → area ≡ area'
same_area (in_control i l) (in_control k m) e = refl
same_area (in_control i l) (on_stack k d) e = absurd (omega arith)
same_area (on_stack i c) (in_control k m) e = absurd (omega arith)
same_area (on_stack i c) (on_stack k d) e = refl

pub best-unique : {X : Image} {x : ℕ} {area area' : Area} {index index' : ℕ} {cells cells' : List ℕ} → Best X x area index cells → Best X x area' index' cells'
    → (area ≡ area') × (index ≡ index') × (cells ≡ cells')
best-unique {area = area} {area' = area'} {index = index} {index' = index'} {cells = cells} {cells' = cells'} b b' =
    let e = after-antisym (places area index cells) (places area' index' cells') (b.best area' index' cells' b'.chain) (b'.best area index cells b.chain) in
    (same_area (chain-root b.chain).1 (chain-root b'.chain).1 (cc e), cc e, cc e)
