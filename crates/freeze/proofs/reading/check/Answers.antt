use Prim.Native.Nat.{◌<◌}
use mathlib.Core.Path.{◌≡◌, refl, sym, ap, ◌∙◌}
use native.Mathlib.Omega.{arith}
use borrow.Author.Rules.{rules}
use borrow.Author.Tests.{eq-eqb, ne_eqb}
use lib.Dec.{eqb}
use lib.ListN.{length}
use Rattle.std.proofs.lemmas.List.{get_or_read_under}
use Rattle.freeze.specs.declared.FileRefusal.TheVariants.{Cut, Kind}
use Rattle.freeze.specs.Kinds.{record_size}
use Rattle.freeze.specs.Records.{kind_at}
use Rattle.freeze.proofs.RecordLaws.{record-missing, record-other, record-cut, record-whole}
use Rattle.freeze.proofs.Checking.{checking-more, checking-stops, checking-ends}
use Rattle.freeze.proofs.reading.check.Goals as goal

pub returns-in_default : goal.returns-in_default
returns-in_default c = checking-stops _ _ _ _ _ _ (Cut _) c.loop.invariant (omega arith) (record-missing _ _ _ (search rules))

pub returns-then-found-kind : goal.returns-then-found-kind
returns-then-found-kind c =
    let f = c.args.file.now in
    let at = c.loop.at in
    let h : at < length f = search rules in
    let k : c.in-Some.field-0.now ≡ kind_at f at = get_or_read_under f at _ _ 0 c.in-Some.ensures.lookup.1 h refl in
    checking-stops _ _ _ _ _ _ (Kind _) c.loop.invariant (omega arith) (record-other _ _ _ h (ne_eqb _ _ (λ e. c.if-found-kind.true (k ∙ e))))

pub returns-then-file-at : goal.returns-then-file-at
returns-then-file-at c =
    let a = c.args in
    let f = a.file.now in
    let at = c.loop.at in
    let h : at < length f = search rules in
    let k : kind_at f at ≡ a.kind = sym (get_or_read_under f at _ _ 0 c.in-Some.ensures.lookup.1 h refl) ∙ c.if-found-kind.false in
    checking-stops _ _ _ _ _ _ (Cut _) c.loop.invariant (omega arith)
    (record-cut (λ k. eqb k a.kind) f at h (eq-eqb _ _ k) (omega (arith, ap record_size k, c.record_size-size.ensures)))

pub loop-preserved : goal.loop-preserved
loop-preserved c =
    let a = c.args in
    let f = a.file.now in
    let at = c.loop.at in
    let size = c.record_size-size in
    let h : at < length f = search rules in
    let k : kind_at f at ≡ a.kind = sym (get_or_read_under f at _ _ 0 c.in-Some.ensures.lookup.1 h refl) ∙ c.if-found-kind.false in
    rw size.ensures
    (checking-more _ _ _ _ at _ c.loop.invariant (omega arith) (record-whole (λ k. eqb k a.kind) f at (eq-eqb _ _ k) (omega (arith, ap record_size k, size.ensures))))

pub returns : goal.returns
returns c = checking-ends _ _ _ _ _ _ c.loop.invariant (omega arith)
