-- `admit::check_image` meets its contract: registers, chains, roles and noted words are checked in the table's order, each on what the checks
-- before it have shown. Assumes nothing.
use Prim.Native.Nat.{◌+◌}
use mathlib.Core.Path.{◌≡◌, refl, sym, ◌∙◌}
use mathlib.Core.Bool.{true}
use native.Mathlib.Omega.{arith}
use lib.ListN.{length}
use Rattle.machine.specs.Lent.{seen}
use Rattle.machine.specs.Refusals.{fits}
use Rattle.admit.proofs.Admitting.{registers-stop, chain-stop, roles-stop, words-noted, noted-checked}
use Rattle.admit.proofs.check_image.Goals as goal
use Rattle.admit.proofs.check_image.Goals.{Else-not-registers_fit}

fit : (c : Else-not-registers_fit) → fits (seen c.args.view) ≡ true
fit c = sym c.registers_fit.ensures ∙ c.if-not-registers_fit.false

pub returns-then-not-registers_fit : goal.returns-then-not-registers_fit
returns-then-not-registers_fit c = registers-stop (seen c.args.view) _ (sym c.registers_fit.ensures ∙ c.if-not-registers_fit.true)

pub walk-requires : goal.walk-requires
walk-requires c =
    record { registers = c.requires.sizes.least; room = c.requires.room; zero = λ i l. c.requires.blank (length c.args.view.heap.now + i) (omega arith) }

pub returns-in-Err : goal.returns-in-Err
returns-in-Err c = chain-stop (seen c.args.view) _ (fit (goal.at.returns-in-Err c).Else-not-registers_fit) _ (c.in-Err.ensures _ refl refl)

pub returns-in-Some : goal.returns-in-Some
returns-in-Some c = roles-stop (seen c.args.view) _ (fit (goal.at.returns-in-Some c).Else-not-registers_fit) _ (c.in_default.ensures _ refl refl) _ c.in-Some.ensures

pub check_noted-requires : goal.check_noted-requires
check_noted-requires c =
    words-noted (seen c.args.view) _ (fit (goal.at.check_noted-requires c).Else-not-registers_fit) _ (c.in_default.ensures _ refl refl) c.in_default-apart.ensures c.requires

pub returns : goal.returns
returns c =
    noted-checked (seen c.args.view) _ (fit (goal.at.returns c).Else-not-registers_fit) _ (c.in_default.ensures _ refl refl) c.in_default-apart.ensures c.requires c.check_noted.ensures
