-- `report::next` meets its contract, case by case: no file, too many files, a bad file, a refused image, a counted one (`Stepping`).
-- Assumes nothing.
use Rattle.std.specs.Prelude.{Some}
use Prim.Native.Nat.{ℕ, ◌+◌, ◌≤◌, ◌<◌}
use mathlib.Core.Path.{◌≡◌, sym, ap, ◌∙◌, subst}
use mathlib.Core.List.{List}
use native.Mathlib.Nat.{pos_of_ne-zero}
use native.Mathlib.Omega.{arith}
use borrow.Author.Tests.{eqb-true, eqb-false}
use lib.ListN.{length, take}
use Rattle.machine.specs.Layout.{Image}
use Rattle.freeze.specs.declared.AreaCounts.{AreaCounts}
use Rattle.freeze.specs.Thaw.{image_of}
use Rattle.freeze.specs.Verdicts.{verdict_of}
use Rattle.tally.specs.Counts.{Counted}
use Rattle.tally.specs.Totals.{files_most}
use Rattle.report.specs.Text.{counted_file}
use Rattle.report.specs.First.{room_of, first_file, file_most}
use Rattle.report.specs.Reports.{with_figures}
use Rattle.report.specs.Nexts.{Answers}
use Rattle.report.specs.Parts.{CountsFirst, Refuses}
use Rattle.report.proofs.Firsts.{first_taken, first-most}
use Rattle.report.proofs.Fronts.{room-sized}
use Rattle.report.proofs.Months.{possible-figures, possible-refused}
use Rattle.report.proofs.Stepping.{bad-verdict, near, next-ended, next-too_many, next-bad, next-refused, next-counted}
use Rattle.report.proofs.next.Goals as goal
use Rattle.report.proofs.next.Goals.{After-first_length-used}

-- the lent areas, and the first file of the window
abbrev lent : After-first_length-used → Image
lent c = image_of c.args.control.now c.args.stack.now c.args.heap.now c.args.trail.now

abbrev file : After-first_length-used → List ℕ
file c = first_file (room_of (lent c)) c.args.window.now

used-is : (c : After-first_length-used) → c.first_length-used.result ≡ length (file c)
unfolding room_of
used-is c = c.first_length-used.ensures.0 ∙ ap (λ (room : AreaCounts). length (first_file room c.args.window.now)) c.room_in-room.ensures

file-is : (c : After-first_length-used) → take c.first_length-used.result c.args.window.now ≡ file c
file-is c = ap (λ (n : ℕ). take n c.args.window.now) (used-is c) ∙ first_taken (room_of (lent c)) c.args.window.now

file-most : (c : After-first_length-used) → length (file c) ≤ file_most
file-most c = first-most (room_of (lent c)) c.args.window.now (room-sized (lent c))

used-most : (c : After-first_length-used) → c.first_length-used.result ≤ file_most
used-most c = omega (arith, used-is c, file-most c)

some : (c : After-first_length-used) → 0 < length c.args.window.now
some c = pos_of_ne-zero (eqb-false _ _ (sym c.is_empty.ensures ∙ c.if-is_empty.false))

room : (c : After-first_length-used) → c.args.month.files < files_most
room c = omega (arith, c.if-month-ge-FILES_MOST.false)

-- what was counted of it
counts : (c : After-first_length-used) {r : Counted} {left : Image} {work' : List ℕ}
    → CountsFirst (take c.first_length-used.result c.args.window.now) (lent c) c.args.work.now r left work' → CountsFirst (file c) (lent c) c.args.work.now r left work'
counts c {r} {left} {work'} k = subst (λ (bytes : List ℕ). CountsFirst bytes (lent c) c.args.work.now r left work') (file-is c) k

pub returns-then-is_empty-clause-nexts : goal.returns-then-is_empty-clause-nexts
returns-then-is_empty-clause-nexts c = next-ended _ _ _ _ (eqb-true _ _ (sym c.is_empty.ensures ∙ c.if-is_empty.true)) c.end.ensures

pub stop-requires-clause-near : goal.stop-requires-clause-near
unfolding verdict_of
stop-requires-clause-near c = λ number offset e. let z : 0 ≡ offset = cc in omega arith

pub returns-then-month-ge-FILES_MOST-clause-nexts : goal.returns-then-month-ge-FILES_MOST-clause-nexts
returns-then-month-ge-FILES_MOST-clause-nexts c =
    next-too_many _ _ _ _ (pos_of_ne-zero (eqb-false _ _ (sym c.is_empty.ensures ∙ c.if-is_empty.false))) c.if-month-ge-FILES_MOST.true c.stop.ensures

pub count-requires-clause-used_le_file_most : goal.count-requires-clause-used_le_file_most
count-requires-clause-used_le_file_most c = used-most (goal.at.count-requires-clause-used_le_file_most c).After-first_length-used

pub refuse-requires-clause-used_le_file_most : goal.refuse-requires-clause-used_le_file_most
refuse-requires-clause-used_le_file_most c = used-most (goal.at.refuse-requires-clause-used_le_file_most c).After-first_length-used

pub stop-requires-in-Err-File-clause-near : goal.stop-requires-in-Err-File-clause-near
stop-requires-in-Err-File-clause-near c =
    let m = (goal.at.stop-requires-in-Err-File-clause-near c).After-first_length-used in
    near (lent m) c.args.work.now c.args.month c.args.window.now _ (bad-verdict (lent m) c.args.work.now c.args.month c.args.window.now (counts m (rw c.in-Err-File.field-0-is at c.in-Err-File.ensures.counts_first)))

pub returns-in-Ok-clause-nexts : goal.returns-in-Ok-clause-nexts
returns-in-Ok-clause-nexts c =
    let m = (goal.at.returns-in-Ok-clause-nexts c).After-first_length-used in
    let figures = c.in-Ok.figures in
    let month = c.args.month in
    let a = subst (λ (used : ℕ). Answers (Some (record { used = used; month = with_figures used figures month })) (counted_file (month.files + 1) figures) c.args.output.now c.args.at c.count.result c.count.new.output) (used-is m) c.count.ensures in
    next-counted (lent m) c.args.work.now month c.args.window.now (some m) (room m) figures (counts m c.in-Ok.ensures.counts_first) a

pub returns-in-Ok-clause-possible : goal.returns-in-Ok-clause-possible
returns-in-Ok-clause-possible c =
    let m = (goal.at.returns-in-Ok-clause-possible c).After-first_length-used in
    rw c.count.ensures.goes (possible-figures c.requires (room m) _ (used-most m) c.in-Ok.ensures.figured)

pub returns-in-Err-Image-clause-nexts : goal.returns-in-Err-Image-clause-nexts
returns-in-Err-Image-clause-nexts c =
    let m = (goal.at.returns-in-Err-Image-clause-nexts c).After-first_length-used in
    let refusal = c.in-Err-Image.refusal in
    let month = c.args.month in
    let s = subst (λ (used : ℕ). Refuses month used refusal c.args.output.now c.args.at c.refuse.result c.refuse.new.output) (used-is m) c.refuse.ensures in
    next-refused (lent m) c.args.work.now month c.args.window.now (some m) (room m) refusal (counts m (rw c.in-Err-Image.field-0-is at c.in-Err-Image.ensures.counts_first)) s

pub returns-in-Err-Image-clause-possible : goal.returns-in-Err-Image-clause-possible
returns-in-Err-Image-clause-possible c =
    let m = (goal.at.returns-in-Err-Image-clause-possible c).After-first_length-used in
    rw c.refuse.ensures.answer.goes (possible-refused c.requires (room m) _ (used-most m) _)

pub returns-in-Err-File-clause-nexts : goal.returns-in-Err-File-clause-nexts
returns-in-Err-File-clause-nexts c =
    let m = (goal.at.returns-in-Err-File-clause-nexts c).After-first_length-used in
    next-bad (lent m) c.args.work.now c.args.month c.args.window.now (some m) (room m) _ (counts m (rw c.in-Err-File.field-0-is at c.in-Err-File.ensures.counts_first)) c.stop-in-Err-File.ensures
