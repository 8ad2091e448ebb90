-- `freeze::reading::check_end` meets its contract: the end record, the bytes after it and the counts are three stages one after the other.
-- Assumes nothing.
use Prim.Native.Nat.{ℕ}
use mathlib.Core.Path.{refl, sym, ap, ◌∙◌}
use native.Mathlib.Omega.{arith}
use lib.ListN.{length}
use borrow.Author.Tests.{le-leb, lt-leb}
use Rattle.freeze.specs.declared.FileRefusal.TheVariants.{After, Differ}
use Rattle.freeze.specs.Kinds.{END}
use Rattle.freeze.specs.Verdicts.{verdict_of}
use Rattle.freeze.specs.Thaw.{past_end}
use Rattle.freeze.proofs.VerdictLaws.{gate-passes, gate-fails, first_passes, first-refuses, first-none}
use Rattle.freeze.proofs.Checking.{good-from, refused-from, exit-refused}
use Rattle.freeze.proofs.reading.check_end.Goals as goal

pub returns-in_err-past : goal.returns-in_err-past
returns-in_err-past c =
    exit-refused _ _ _ c.from_residual.ensures.1 (first-refuses _ _ (refused-from _ END _ c.requires.from_value.1 _ c.in_err-past.ensures))

pub returns-then-past-file : goal.returns-then-past-file
returns-then-past-file c =
    let a = c.args in
    let p = good-from _ END _ c.requires.from_value.1 c.in_ok-past.ensures in
    first_passes _ p.0
    ∙ first-refuses _ (After _)
    (gate-fails (verdict_of (After (past_end a.n))) (lt-leb (length a.file.now) (past_end a.n) (omega (arith, p.1))) ∙ ap (λ (x : ℕ). verdict_of (After x)) (sym p.1))

pub agree-requires : goal.agree-requires
agree-requires c = record { from_value = c.requires.from_value.0; control_value = c.requires.control_value }

pub returns-then-not-agree : goal.returns-then-not-agree
returns-then-not-agree c =
    let a = c.args in
    let p = good-from _ END _ c.requires.from_value.1 c.in_ok-past.ensures in
    first_passes _ p.0
    ∙ first_passes _ (gate-passes (verdict_of (After (past_end a.n))) (le-leb (length a.file.now) (past_end a.n) (omega (arith, p.1))))
    ∙ first-refuses _ Differ (gate-fails (verdict_of Differ) (sym c.if-not-agree.ensures))

pub returns : goal.returns
returns c =
    let a = c.args in
    let p = good-from _ END _ c.requires.from_value.1 c.in_ok-past.ensures in (
      first_passes _ p.0
          ∙ first_passes _ (gate-passes (verdict_of (After (past_end a.n))) (le-leb (length a.file.now) (past_end a.n) (omega (arith, p.1))))
          ∙ first_passes _ (gate-passes (verdict_of Differ) (sym c.if-not-agree.ensures)) ∙ first-none,
      refl,
    )
