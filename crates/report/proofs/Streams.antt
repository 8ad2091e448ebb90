-- The texts of the steps over windows are the report of the whole input: a window begins with the same file as the rest. Assumes nothing.
use Prim.Native.Nat.{ℕ}
use mathlib.Core.Path.{◌≡◌, ap, ◌∙◌, subst}
use mathlib.Core.Logic.{⊎_elim}
use mathlib.Core.List.{List}
use lib.ListN.{length, drop}
use lib.Seq.{take_all}
use Rattle.machine.specs.Layout.{Image}
use Rattle.report.specs.declared.Month.{Month}
use Rattle.report.specs.First.{room_of, first_file}
use Rattle.report.specs.Reports.{closes, goes_on, Steps, Reports}
use Rattle.report.specs.Reports as reports
use Rattle.report.specs.Streams.{Window, Streams, StreamsReport, last, more}
use Rattle.report.proofs.Firsts.{first-window}
use Rattle.report.proofs.Fronts.{room-sized}

-- a window of the input, in whatever room
pub window-first : (lent : Image) {rest window : List ℕ} → Window rest window → first_file (room_of lent) window ≡ first_file (room_of lent) rest
window-first lent {rest} {window} w =
    ap (first_file (room_of lent)) w.begins
    ∙ ⊎_elim
    (λ h. first-window (room_of lent) (room-sized lent) w.width rest h)
    (λ h. ap (first_file (room_of lent)) (take_all w.width rest h))
    w.enough

module _ (lent : Image) (work : ℕ) where
  streamed : {month : Month} {rest text : List ℕ} → Streams (room_of lent) work month rest text → Reports (room_of lent) work month rest text
  streamed (last {month} {rest} {window} {text} w s) =
      reports.last (subst (λ (file : List ℕ). Steps (room_of lent) work month file (closes text)) (window-first lent w) s)
  streamed (more {month} {month'} {rest} {window} {text} {later} {left} w s t) =
      let e = window-first lent w in
      reports.more (subst (λ (file : List ℕ). Steps (room_of lent) work month file (goes_on text month' left)) e s)
      (subst (λ (file : List ℕ). Reports (room_of lent) work month' (drop (length file) rest) later) e (streamed t))

pub streams-report : StreamsReport
streams-report lent work month rest text s = streamed lent work s
