-- `functors::words::covers_first` meets its contract: each return is the law of that tag. Assumes nothing.
use Prim.Native.Nat.{ℕ, ◌+◌, ◌<◌}
use mathlib.Core.Path.{refl, sym, ap₂, ◌∙◌}
use mathlib.Core.Bool.{not}
use native.Mathlib.Omega.{arith}
use lib.Dec.{eqb}
use Rattle.functors.proofs.Covering.{covers-const, covers-var, covers-list, covers-arguments, var-below, list-below, struct-below, alone-clear}
use Rattle.functors.proofs.words.covers_first.Goals as goal

pub names_first-requires : goal.names_first-requires
names_first-requires c = λ l. omega (arith, var-below _ _ c.args.word c.requires.2 c.value-v.ensures (sym c.in-Var.ensures) l, c.requires.1.inside)

pub counted-requires : goal.counted-requires
counted-requires c = omega (arith, list-below _ _ c.args.word c.requires.2 c.value-v.ensures (sym c.in-List.ensures), c.requires.1.inside)

pub counted-requires-else-counted : goal.counted-requires-else-counted
counted-requires-else-counted c = omega (arith, list-below _ _ c.args.word c.requires.2 c.value-v.ensures (sym c.in-List.ensures), c.requires.1.inside)

pub bounds-heap-x : goal.bounds-heap-x
bounds-heap-x c = omega (arith, struct-below _ _ c.args.word c.requires.2 c.value-v.ensures (sym c.in-Struct-2.ensures) refl, c.requires.0)

pub boundary-requires : goal.boundary-requires
boundary-requires c = (omega (arith, struct-below _ _ c.args.word c.requires.2 c.value-v.ensures (sym c.in-Struct-2.ensures) c.arity.ensures), c.requires.1)

pub boundary-requires-in-Struct-2 : goal.boundary-requires-in-Struct-2
boundary-requires-in-Struct-2 c = (omega (arith, struct-below _ _ c.args.word c.requires.2 c.value-v.ensures (sym c.in-Struct-2.ensures) c.arity.ensures), c.requires.1)

pub returns-in-Const : goal.returns-in-Const
returns-in-Const c = λ firsts t o. sym (covers-const firsts _ c.args.word (sym c.in-Const.ensures))

pub returns-in-Var : goal.returns-in-Var
returns-in-Var c =
    λ firsts t o.
    let v = c.value-v in
    c.names_first.ensures firsts _ t.odd (λ l. var-below _ _ c.args.word c.requires.2 v.ensures (sym c.in-Var.ensures) l)
    ∙ sym (covers-var firsts _ c.args.word v.ensures (sym c.in-Var.ensures))

pub returns-then-counted : goal.returns-then-counted
returns-then-counted c =
    λ firsts t o.
    let v = c.value-v in
    let l = list-below _ _ c.args.word c.requires.2 v.ensures (sym c.in-List.ensures) in
    sym (covers-list firsts _ c.args.word v.ensures (sym c.in-List.ensures) ∙ rw (sym (t.odd.at v.result (omega arith)) ∙ sym c.counted.ensures ∙ c.if-counted.true) (sym c.if-counted.true))

pub returns-else-counted : goal.returns-else-counted
returns-else-counted c =
    λ firsts t o.
    let v = c.value-v in
    let l = list-below _ _ c.args.word c.requires.2 v.ensures (sym c.in-List.ensures) in
    c.counted-else-counted.ensures ∙ t.odd.at (v.result + 1) l
    ∙ sym (covers-list firsts _ c.args.word v.ensures (sym c.in-List.ensures) ∙ rw (sym (t.odd.at v.result (omega arith)) ∙ sym c.counted.ensures ∙ c.if-counted.false))

pub returns-in-Struct : goal.returns-in-Struct
returns-in-Struct c = λ firsts t o. sym (alone-clear t c.if-total-eq0.true c.args.word o c.requires.2 (sym c.in-Struct.ensures))

pub returns-in-Struct-2 : goal.returns-in-Struct-2
returns-in-Struct-2 c =
    λ firsts t o.
    let many : 0 < c.args.total = omega arith in
    ap₂ (λ (i j : ℕ). not (eqb i j)) (c.boundary.ensures firsts (t.counting many) (t.all many)) (c.boundary-in-Struct-2.ensures firsts (t.counting many) (t.all many))
    ∙ sym (covers-arguments firsts _ c.args.word c.value-v.ensures (sym c.in-Struct-2.ensures) c.arity.ensures)
