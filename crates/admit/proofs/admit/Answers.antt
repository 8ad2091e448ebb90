-- `admit::admit` meets its contract: sizes that are refused leave the work as it was, and else the work words are cleared, the image is
-- checked, and the words are cleared again if it is refused. Assumes nothing.
use Rattle.std.specs.Prelude.{Result, Ok, Err}
use Rattle.std.specs.Result.{is_err}
use mathlib.Core.Path.{◌≡◌, refl, sym, ◌∙◌}
use mathlib.Core.Bool.{true, false}
use mathlib.Core.List.{List}
use Prim.Native.Nat.{ℕ}
use native.Mathlib.Omega.{arith}
use lib.ListN.{length}
use Rattle.machine.specs.declared.Refusal.{Refusal}
use Rattle.machine.specs.Layout.{Image}
use Rattle.machine.specs.Lent.{seen}
use Rattle.machine.specs.Refusals.{enough}
use Rattle.machine.proofs.Checks.{enough-iff}
use Rattle.machine.proofs.Tests.{true-false}
use Rattle.machine.proofs.Works.{cleared_to}
use Rattle.admit.specs.Admits.{Admits, ChecksImage}
use Rattle.admit.proofs.Admitting.{sizes-stop, blanked, admits-passed, admits-refused}
use Rattle.admit.proofs.admit.Goals as goal
use Rattle.admit.proofs.admit.Goals.{Else-not-sizes_enough}

enough-work : (c : Else-not-sizes_enough) → enough (length c.args.work.now) (seen c.args.view) ≡ true
enough-work c = sym c.sizes_enough.ensures ∙ c.if-not-sizes_enough.false

-- an answer that is a refusal, with the words cleared after it, and one that is none
module _ (X : Image) (work : List ℕ) (e : enough (length work) X ≡ true) (work' : List ℕ) (q : work' ≡ cleared_to X work) (l : length work' ≡ length work) (work'' : List ℕ) where
  refused : (r : Result (Unit {0}) Refusal) → is_err r ≡ true → ChecksImage X work' r work'' → (last : List ℕ) → last ≡ cleared_to X work'' → Admits X work r last
  refused (Ok u) y c last z = true-false y refl
  refused (Err r) y c last z = admits-refused X work e work' q l work'' last c z

  passed : (r : Result (Unit {0}) Refusal) → is_err r ≡ false → ChecksImage X work' r work'' → Admits X work r work''
  passed (Ok u) y c = admits-passed X work e work' q l c
  passed (Err r) y c = true-false refl y

pub returns-then-not-sizes_enough : goal.returns-then-not-sizes_enough
returns-then-not-sizes_enough c = sizes-stop (seen c.args.view) _ (sym c.sizes_enough.ensures ∙ c.if-not-sizes_enough.true)

pub clear-requires : goal.clear-requires
clear-requires c = (omega arith, ((enough-iff (seen c.args.view) _).0 (enough-work (goal.at.clear-requires c).Else-not-sizes_enough)).1)

pub check_image-checked-requires : goal.check_image-checked-requires
check_image-checked-requires c =
    blanked (seen c.args.view) _ (enough-work (goal.at.check_image-checked-requires c).Else-not-sizes_enough) c.clear.new.words c.clear.ensures c.clear.auto.words

pub clear-requires-then-is_err : goal.clear-requires-then-is_err
clear-requires-then-is_err c =
    (omega arith, omega (arith, ((enough-iff (seen c.args.view) _).0 (enough-work (goal.at.clear-requires-then-is_err c).Else-not-sizes_enough)).1, c.check_image-checked.ensures.same, c.clear.auto.words))

pub returns-then-is_err : goal.returns-then-is_err
returns-then-is_err c =
    refused (seen c.args.view) _ (enough-work (goal.at.returns-then-is_err c).Else-not-sizes_enough) c.clear.new.words c.clear.ensures c.clear.auto.words _ _ (sym c.is_err.ensures.value ∙ c.if-is_err.true) c.check_image-checked.ensures _ c.clear-then-is_err.ensures

pub returns-else-is_err : goal.returns-else-is_err
returns-else-is_err c =
    passed (seen c.args.view) _ (enough-work (goal.at.returns-else-is_err c).Else-not-sizes_enough) c.clear.new.words c.clear.ensures c.clear.auto.words _ _ (sym c.is_err.ensures.value ∙ c.if-is_err.false) c.check_image-checked.ensures
