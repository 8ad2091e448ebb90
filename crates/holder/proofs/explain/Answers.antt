-- `holder::explain` meets its contract: what the search has met is held, and what it has not is dead. Assumes nothing.
use Prim.Native.Nat.{◌<◌}
use mathlib.Core.Path.{◌≡◌, sym, ◌∙◌}
use native.Mathlib.Omega.{arith}
use Rattle.std.proofs.Common.{rules}
use borrow.Author.Tests.{eqb-true, eqb-false}
use lib.ListN.{get_or}
use Rattle.machine.specs.Layout.{H, field}
use Rattle.queue.specs.Filled.{met_bit}
use Rattle.holder.proofs.Explaining.{told, can-mark, searched, explained-none, explained-dead, explained-held}
use Rattle.holder.proofs.explain.Goals as goal
use Rattle.holder.proofs.explain.Goals.{After-fill-tail, Else-not-is_met, Then-not-is_met}

-- the cell lies below H
low : (c : After-fill-tail) → c.args.x < field c.args.view.control.now 0 H
unfolding field
low c = omega arith

-- what `is_met` answered of it
not-met : (c : Then-not-is_met) → met_bit (get_or c.fill-tail.new.work c.args.x 0) ≡ 1 → ⊥
not-met c = eqb-false _ _ (sym c.is_met.ensures ∙ c.if-not-is_met.true)

met : (c : Else-not-is_met) → met_bit (get_or c.fill-tail.new.work c.args.x 0) ≡ 1
met c = eqb-true _ _ (sym c.is_met.ensures ∙ c.if-not-is_met.false)

pub returns-then-view-x : goal.returns-then-view-x
unfolding field
returns-then-view-x c = explained-none (omega arith)

pub fill-tail-requires : goal.fill-tail-requires
fill-tail-requires c = can-mark c.requires

pub bounds-work-x : goal.bounds-work-x
bounds-work-x c = omega (arith, low (goal.at.bounds-work-x c).After-fill-tail, can-mark c.requires, c.fill-tail.ensures.same)

pub returns-then-not-is_met : goal.returns-then-not-is_met
returns-then-not-is_met c = explained-dead c.requires c.fill-tail.ensures (low (goal.at.returns-then-not-is_met c).After-fill-tail) (not-met (goal.at.returns-then-not-is_met c).Then-not-is_met)

pub held_by-requires : goal.held_by-requires
held_by-requires c =
    searched (can-mark c.requires) c.fill-tail.ensures ((c.fill-tail.ensures.met c.args.x (low (goal.at.held_by-requires c).After-fill-tail)).0 (met (goal.at.held_by-requires c).Else-not-is_met))

pub returns : goal.returns
returns c =
    let e : c.map.result ≡ told c.held_by.result = search rules in
    rw e (explained-held c.requires c.fill-tail.ensures (low (goal.at.returns c).After-fill-tail) c.held_by.ensures)
