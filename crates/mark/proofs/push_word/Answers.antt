-- `push_word` meets its contract: at each tag it pushes as many cells from the word's value on as its extent says; of a STRUCT
-- whose first cell is marked, all are marked already. Assumes nothing.
use Prim.Native.Nat.{ℕ, ◌+◌, ◌<◌}
use mathlib.Core.Path.{◌≡◌, refl, ap}
use native.Mathlib.Omega.{arith}
use lib.ListN.{get_or, length}
use Rattle.cell.specs.Word.{STRUCT, value_of, tag_of, extent}
use Rattle.cell.proofs.Words.{extent-heap-var, extent-stack-var, extent-struct, extent-list, const-refers-nothing}
use Rattle.mark.proofs.Stacks.{pushable-part, pushed_none, pushed-marked, pushed-iff}
use Rattle.mark.proofs.push_word.Goals as goal
use Rattle.mark.proofs.push_word.Goals.{Start, After-arity}

-- a STRUCT's first cell is inside
first-inside : (c : Start) → STRUCT ≡ tag_of c.args.word → value_of c.args.word < length c.args.marks.now
first-inside c t =
    let e = extent-struct c.args.heap.now c.args.word (omega arith) in
    c.requires.0.inside (value_of c.args.word) (omega arith)

-- at a STRUCT: the word's extent, by the functor that was read
struct-extent : (c : After-arity) → extent c.args.heap.now c.args.word ≡ 1 + c.arity.result
struct-extent c =
    let functor = ap (λ (v : ℕ). get_or c.args.heap.now v 0) c.value-v.ensures in
    omega (arith, extent-struct c.args.heap.now c.args.word (omega (arith, c.in-Struct.ensures)))

pub push-requires : goal.push-requires
push-requires c =
    let e = extent-heap-var c.args.heap.now c.args.word (omega (arith, c.in-Var.ensures)) (omega arith) in
    omega (arith, c.requires.0.inside (value_of c.args.word) (omega arith))

pub returns-in-Var : goal.returns-in-Var
returns-in-Var c =
    let a = c.args in
    let e = extent-heap-var a.heap.now a.word (omega (arith, c.in-Var.ensures)) (omega arith) in
    pushed-iff (λ x q. omega arith) (λ x r. omega arith) c.push.ensures

pub returns-in-Var-2 : goal.returns-in-Var-2
returns-in-Var-2 c =
    let a = c.args in
    let e = extent-stack-var a.heap.now a.word (omega (arith, c.in-Var.ensures)) (omega arith) in
    pushed_none _ _ (λ x r. omega arith)

pub bounds-marks-a : goal.bounds-marks-a
bounds-marks-a c = omega (arith, first-inside (goal.at.bounds-marks-a c).Start c.in-Struct.ensures)

pub returns-in-Struct : goal.returns-in-Struct
returns-in-Struct c =
    let first = ap (λ (v : ℕ). get_or c.args.marks.now v 0) c.value-v.ensures in
    pushed-marked _ _ (c.requires.1.arguments c.args.word refl (omega (arith, c.in-Struct.ensures)) (omega arith))

pub bounds-heap-a : goal.bounds-heap-a
bounds-heap-a c =
    omega (arith, first-inside (goal.at.bounds-heap-a c).Start c.in-Struct.ensures, c.requires.0.deep)

pub push_range-requires : goal.push_range-requires
push_range-requires c =
    let e = struct-extent (goal.at.push_range-requires c).After-arity in
    pushable-part c.requires.0 (λ x r. omega arith)

pub returns-in-Struct-2 : goal.returns-in-Struct-2
returns-in-Struct-2 c =
    let e = struct-extent (goal.at.returns-in-Struct-2 c).After-arity in
    pushed-iff (λ x r. omega arith) (λ x r. omega arith) c.push_range.ensures

pub push_pair-requires : goal.push_pair-requires
push_pair-requires c =
    let e = extent-list c.args.heap.now c.args.word (omega (arith, c.in-List.ensures)) in
    pushable-part c.requires.0 (λ x r. omega arith)

pub returns-in-List : goal.returns-in-List
returns-in-List c =
    let a = c.args in
    let e = extent-list a.heap.now a.word (omega (arith, c.in-List.ensures)) in
    pushed-iff (λ x r. omega arith) (λ x r. omega arith) c.push_pair.ensures

pub returns-in-Const : goal.returns-in-Const
returns-in-Const c =
    let a = c.args in
    pushed_none _ _ (const-refers-nothing a.heap.now a.word (omega (arith, c.in-Const.ensures)))
