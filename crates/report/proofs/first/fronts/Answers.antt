-- `report::first::fronts` meets its contract: all the room where there is no whole counts record, and else what is counted (`Fronts`).
-- Assumes nothing.
use Rattle.report.specs.Parts.{Fronts}
use Rattle.freeze.specs.Thaw.{counts_in}
use Rattle.freeze.specs.declared.AreaCounts.{AreaCounts}
use Rattle.machine.specs.Layout.{fixed}
use mathlib.Core.Path.{◌≡◌, sym, ap, subst}
use Prim.Native.Nat.{max}
use Rattle.report.proofs.Fronts.{counted, fronts-short, fronts-counted}
use Rattle.report.proofs.Firsts.{size_is}
use native.Mathlib.Omega.{arith}
use Rattle.report.proofs.first.fronts.Goals as goal

pub returns-then-file-record_size : goal.returns-then-file-record_size
returns-then-file-record_size c = fronts-short c.args.room c.requires c.args.file.now (omega (arith, c.record_size.ensures, size_is))

pub returns : goal.returns
returns c =
    let control : c.max.result ≡ max fixed (counts_in c.args.file.now).control = omega (arith, c.max.ensures, ap (λ (n : AreaCounts). n.control) c.counts_in-n.ensures) in
    let e : c.least.result ≡ counted c.args.room c.requires c.args.file.now = rw (c.least.ensures, control, c.counts_in-n.ensures) in
    subst (Fronts c.args.room c.args.file.now) (sym e) (fronts-counted c.args.room c.requires c.args.file.now)
