-- `freeze::reading::check_file` meets its contract: each `return` is the first stage that is refused, all before it having passed.
-- Assumes nothing.
use mathlib.Core.Path.{◌≡◌, sym, ap, ◌∙◌}
use mathlib.Core.Bool.{true}
use mathlib.Core.List.{List, ◌++◌}
use Prim.Native.Nat.{ℕ}
use native.Mathlib.Omega.{arith}
use Rattle.freeze.specs.declared.AreaCounts.{AreaCounts}
use Rattle.freeze.specs.declared.FileRefusal.TheVariants.{Room}
use Rattle.freeze.specs.Kinds.{COUNTS}
use Rattle.freeze.specs.Verdicts.{accepted, verdict_of, first_of}
use Rattle.freeze.specs.Records.{records_verdict}
use Rattle.freeze.specs.Thaw.{within, counts_in, area_stages, end_stages, file_stages}
use Rattle.freeze.proofs.VerdictLaws.{gate-passes, gate-fails, first-refuses, first_passes, front-refuses, front-passes, first_of-passed}
use Rattle.freeze.proofs.RecordLaws.{passed-kind}
use Rattle.freeze.proofs.WordLaws.{records-passed}
use Rattle.freeze.proofs.Checking.{exit-refused}
use Rattle.freeze.proofs.reading.check_file.Goals as goal

-- the counts record has passed, and no count is above its room: the areas and the end speak, of these counts
room-passed : (room n : AreaCounts) (file : List ℕ) → records_verdict file COUNTS 0 1 ≡ accepted → n ≡ counts_in file → true ≡ within n room
    → first_of (file_stages room file) ≡ first_of (area_stages n file ++ end_stages n file)
room-passed room n file p e w =
    first_passes _ p ∙ first_passes _ (gate-passes (verdict_of Room) (sym (w ∙ ap (λ (n : AreaCounts). within n room) e)))
    ∙ ap (λ (n : AreaCounts). first_of (area_stages n file ++ end_stages n file)) (sym e)

pub returns-in_err-from : goal.returns-in_err-from
returns-in_err-from c = exit-refused _ _ _ c.from_residual.ensures.1 (first-refuses _ _ c.in_err-from.ensures)

pub counts_in-n-requires : goal.counts_in-n-requires
counts_in-n-requires c =
    let p = passed-kind c.args.file.now COUNTS 0 (records-passed c.args.file.now COUNTS 0 0 c.in_ok-from.ensures.0).0 in
    omega (arith, p.1)

pub returns-then-not-within : goal.returns-then-not-within
returns-then-not-within c =
    first_passes _ c.in_ok-from.ensures.0
    ∙ first-refuses _ Room (gate-fails (verdict_of Room) (sym (c.if-not-within.ensures ∙ ap (λ (n : AreaCounts). within n c.args.room) c.counts_in-n.ensures)))

pub returns-in_err-end : goal.returns-in_err-end
returns-in_err-end c =
    exit-refused _ _ _ c.from_residual-in_err-end.ensures.1
    (room-passed _ _ _ c.in_ok-from.ensures.0 c.counts_in-n.ensures c.if-not-within.ensures ∙ front-refuses _ _ _ c.in_err-end.ensures)

pub check_end-requires : goal.check_end-requires
check_end-requires c =
    record { from_value = (c.in_ok-from.ensures.1, c.in_ok-end.ensures.1); control_value = (first_of-passed _ _ c.in_ok-end.ensures.0).0 }

pub returns-in_err-check_end : goal.returns-in_err-check_end
returns-in_err-check_end c =
    exit-refused _ _ _ c.from_residual-in_err-check_end.ensures.1
    (room-passed _ _ _ c.in_ok-from.ensures.0 c.counts_in-n.ensures c.if-not-within.ensures ∙ front-passes _ _ c.in_ok-end.ensures.0 ∙ c.in_err-check_end.ensures)

pub returns : goal.returns
returns c = (
  room-passed _ _ _ c.in_ok-from.ensures.0 c.counts_in-n.ensures c.if-not-within.ensures ∙ front-passes _ _ c.in_ok-end.ensures.0 ∙ c.in_ok-check_end.ensures.0,
  c.counts_in-n.ensures,
)
