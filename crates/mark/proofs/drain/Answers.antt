use borrow.Author.Rules.{rules}
use native.Mathlib.Omega.{arith}
use Prim.Native.Nat.{◌≤◌, ◌<◌, ◌-◌}
use lib.ListN.{length, get_or}
use Rattle.mark.specs.Marks.{Marked}
use Rattle.mark.specs.Whole.{at}
use Rattle.mark.proofs.Whole.{passable-pushed, whole-at, from-word}
use Rattle.mark.proofs.Drains.{start, again, finish, top_in, turn-less}
use Rattle.mark.proofs.drain.Goals as goal
use Rattle.mark.proofs.drain.Goals.{In-loop-t}

-- in a turn, the cell on top is a marked cell, and so is what is below it
on-top : (c : In-loop-t) → (c.loop-t.t - 1 < length c.loop-t.marks) × Marked c.loop-t.marks (c.loop-t.t - 1) × (get_or c.loop-t.marks (c.loop-t.t - 1) 0 - 1 ≤ length c.loop-t.marks)
on-top c = top_in _ _ _ c.loop-t.invariant.0.ready c.loop-t-test.true

pub loop-t-init : goal.loop-t-init
loop-t-init c = (search start, search rules)

pub bounds-marks-x : goal.bounds-marks-x
bounds-marks-x c = (on-top (goal.at.bounds-marks-x c).In-loop-t).0

pub overflow_sub-below : goal.overflow_sub-below
overflow_sub-below c = (on-top (goal.at.overflow_sub-below c).In-loop-t).1

pub bounds-heap-x : goal.bounds-heap-x
bounds-heap-x c = omega (arith, on-top (goal.at.bounds-heap-x c).In-loop-t)

pub push_word-t-requires : goal.push_word-t-requires
push_word-t-requires c =
    let p = c.requires in
    let v = c.loop-t.invariant in
    let d = v.0 in
    let o = on-top (goal.at.push_word-t-requires c).In-loop-t in (
      record {
        inside = λ x r. omega (arith, d.same, p.inside _ (omega (arith, d.same)) x r);
        deep = omega (arith, d.same);
        small = omega (arith, d.same);
        low = o.2;
      },
      whole-at v.1 _ (at _ (omega (arith, d.same)) tt),
    )

pub loop-t-smaller : goal.loop-t-smaller
loop-t-smaller c = search turn-less

pub loop-t-preserved : goal.loop-t-preserved
loop-t-preserved c =
    let v = c.loop-t.invariant in
    let o = on-top (goal.at.loop-t-preserved c).In-loop-t in
    (search again, passable-pushed v.1 (from-word _ _ (at _ (omega (arith, v.0.same, o)) tt)) c.push_word-t.ensures)

pub returns : goal.returns
returns c = finish (rw c.loop-t-test.false at c.loop-t.invariant.0)
