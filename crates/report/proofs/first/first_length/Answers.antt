-- `report::first::first_length` meets its contract: all of a window that has no whole counts record, the record alone where it counts too much, and else what it counts (`Firsts`).
-- Assumes nothing.
use Rattle.freeze.specs.Thaw.{counts_in, within, past_end}
use Rattle.freeze.specs.Parts.{Small}
use Rattle.freeze.specs.declared.AreaCounts.{AreaCounts}
use mathlib.Core.Bool.{true, false}
use mathlib.Core.Path.{◌≡◌, sym, ap, ◌∙◌, subst}
use Rattle.report.proofs.Firsts.{head, size_is, first_short, first_head, first-whole, small-counts}
use native.Mathlib.Omega.{arith}
use Rattle.report.proofs.first.first_length.Goals as goal

pub returns-then-window-head : goal.returns-then-window-head
returns-then-window-head c =
    (first_short c.args.room c.args.window.now (omega (arith, c.record_size-head.ensures, size_is)), omega arith)

pub returns-then-not-within : goal.returns-then-not-within
returns-then-not-within c =
    let h : c.record_size-head.result ≡ head = c.record_size-head.ensures ∙ size_is in
    let beyond : within (counts_in c.args.window.now) c.args.room ≡ false = sym (c.within.ensures ∙ ap (λ (n : AreaCounts). within n c.args.room) c.counts_in-n.ensures) ∙ c.if-not-within.true in
    (h ∙ first_head c.args.room c.args.window.now (omega arith) beyond, omega arith)

pub file_length-requires : goal.file_length-requires
file_length-requires c =
    let inside : within (counts_in c.args.window.now) c.args.room ≡ true = sym (c.within.ensures ∙ ap (λ (n : AreaCounts). within n c.args.room) c.counts_in-n.ensures) ∙ c.if-not-within.false in
    subst Small (sym c.counts_in-n.ensures) (small-counts c.args.room c.args.window.now c.requires inside)

pub returns : goal.returns
returns c =
    let inside : within (counts_in c.args.window.now) c.args.room ≡ true = sym (c.within.ensures ∙ ap (λ (n : AreaCounts). within n c.args.room) c.counts_in-n.ensures) ∙ c.if-not-within.false in
    let long : c.file_length.result ≡ past_end (counts_in c.args.window.now) = c.file_length.ensures ∙ ap past_end c.counts_in-n.ensures in
    (c.min.ensures ∙ first-whole c.args.room c.args.window.now _ long inside, omega (arith, c.min.ensures))
