-- What a caller of `next` learns of its answer: how much of the window is used up, that one file more is counted where the report goes
-- on, and that a step's text is not cut where the output has room for it. Assumes nothing.
use Rattle.std.specs.Prelude.{Some}
use Rattle.std.proofs.lemmas.Option.{none-some}
use Prim.Native.Nat.{ℕ, ◌+◌, ◌-◌, ◌≤◌, ◌<◌}
use mathlib.Core.Path.{◌≡◌, refl, sym, ◌∙◌, subst}
use mathlib.Core.List.{List}
use native.Mathlib.Omega.{arith}
use lib.ListN.{length, length-take}
use Rattle.machine.specs.Layout.{Image}
use Rattle.freeze.specs.declared.AreaCounts.{AreaCounts}
use Rattle.tally.specs.Figures.{tally_of}
use Rattle.tally.specs.Totals.{files_most}
use Rattle.report.specs.declared.Month.{Month}
use Rattle.report.specs.declared.GoesOn.{GoesOn}
use Rattle.report.specs.declared.Step.{Step}
use Rattle.report.specs.Most.{step_most}
use Rattle.report.specs.First.{room_of, first_file, image_of_file}
use Rattle.report.specs.Reports.{with_figures, with_refused, Outcome, Steps, ended, too_many, bad_file, refused_image, counted}
use Rattle.report.specs.Nexts.{next_of, text_of, Nexts}

-- a file is counted where the report goes on
pub record Grows (month : Month) (file : List ℕ) (next : GoesOn) : Type 0 where
  pub used : next.used ≡ length file
  pub files : next.month.files ≡ month.files + 1
  pub room : month.files < files_most

-- how many files more can be read
abbrev pub files_left : Month → ℕ
files_left month = files_most - month.files

grows : {room : AreaCounts} {work : ℕ} {month : Month} {file : List ℕ} {o : Outcome} {next : GoesOn} → Steps room work month file o → next_of file o ≡ Some next → Grows month file next
unfolding with_figures with_refused
grows (ended e) m = absurd (none-some _ m)
grows (too_many s l) m = absurd (none-some _ m)
grows (bad_file n o p v) m = absurd (none-some _ m)
grows {month = month} {file = file} {next = next} (refused_image n q p v w) m =
    let e : record { used = length file; month = with_refused (length file) n month } ≡ next = cc in
    subst (Grows month file) e (record { used = refl; files = refl; room = p.room })
grows {month = month} {file = file} {next = next} (counted Y p v w to) m =
    let e : record { used = length file; month = with_figures (length file) (tally_of to.cells to.entries (image_of_file file)) month } ≡ next = cc in
    subst (Grows month file) e (record { used = refl; files = refl; room = p.room })

module _ {lent : Image} {work : List ℕ} {month : Month} {window output : List ℕ} {at : ℕ} {r : Step} {left : Image} {work' output' : List ℕ} (n : Nexts lent work month window output at r left work' output') where
  pub step-grows : {next : GoesOn} → r.next ≡ Some next → Grows month (first_file (room_of lent) window) next
  step-grows e = grows n.steps (sym n.answer.goes ∙ e)

  pub step-used : {next : GoesOn} → r.next ≡ Some next → next.used ≤ length window
  step-used e = omega (arith, (step-grows e).used, length-take-most)
    where
      length-take-most : length (first_file (room_of lent) window) ≤ length window
      length-take-most = simp length-take (omega arith)

  pub step_falls : {next : GoesOn} → r.next ≡ Some next → files_left next.month < files_left month
  step_falls e = let g = step-grows e in omega (arith, g.files, g.room)

  pub step-inside : at ≤ length output → r.at ≤ length output
  step-inside h = omega (arith, n.answer.puts.puts.next)

  -- no text is cut
  pub never-cut : at + step_most ≤ length output → r.at ≡ at + length (text_of n.outcome)
  never-cut h = omega (arith, n.answer.puts.puts.next, n.answer.puts.short)
