use Prim.Native.Nat.{ℕ, ◌%◌}
use mathlib.Core.Path.{◌≡◌, ap, ◌∙◌}
use mathlib.Core.Bool.{Bool}
use native.Mathlib.Omega.{arith}
use borrow.Author.Tests.{eq-eqb, ne_eqb}
use lib.Dec.{eqb}
use lib.ListN.{length, get_or}
use Rattle.machine.specs.Moved.{below, move_word}
use Rattle.counts.specs.Counts.{Counting}
use Rattle.counts.proofs.Counting.{odd-cell}
use Rattle.slide.proofs.Closing.{Turned, stored, skipped, passed_none, passed-at, passed-turn, closed_none, closed-turn, closed-end}
use Rattle.slide.proofs.slide_heap.Goals as goal
use Rattle.slide.proofs.slide_heap.Goals.{Joined-counts-x-eq1, then-counts-x-eq1, else-counts-x-eq1}

-- a kept cell is stored, any other passed over
turned : (c : Joined-counts-x-eq1) →
    Turned
    (λ (r : ℕ). (cells : ℕ → Bool) → Counting cells (length c.args.counts.now) c.args.counts.now → r ≡ move_word (below cells) (get_or c.loop-x.heap c.loop-x.x 0))
    (eqb (get_or c.args.counts.now c.loop-x.x 0 % 2) 1)
    c.loop-x.heap
    c.loop-x.to
    c.if-counts-x-eq1.heap
    c.if-counts-x-eq1.to
turned c =
    elim c.if-counts-x-eq1.branch [
      | then-counts-x-eq1 w ↦ stored (eq-eqb _ 1 w.if-counts-x-eq1.true) w.moved_word.ensures w.heap-is w.to-is
      | else-counts-x-eq1 w ↦ skipped (ne_eqb _ 1 w.if-counts-x-eq1.false) w.heap-is w.to-is
    ]

pub loop-x-init : goal.loop-x-init
loop-x-init c = (passed_none _, λ cells k. closed_none cells (move_word (below cells)) _)

pub moved_word-requires : goal.moved_word-requires
moved_word-requires c =
    let p = c.requires in
    (p.low, rw (passed-at c.loop-x.invariant.0 c.loop-x.x (omega arith)) (p.cells c.loop-x.x (omega arith)))

pub loop-x-preserved : goal.loop-x-preserved
loop-x-preserved c =
    let v = c.loop-x.invariant in
    let p = c.requires in
    (passed-turn v.0 (turned c), λ cells k. closed-turn cells (move_word (below cells)) _ (omega (arith, p.inside)) (odd-cell k c.loop-x.x (omega arith)) (λ r m. m cells k ∙ ap (move_word (below cells)) (passed-at v.0 c.loop-x.x (omega arith))) v.0 (turned c) (v.1 cells k))

pub returns : goal.returns
returns c = λ cells k.
    let e : c.loop-x.x ≡ length c.args.counts.now = omega arith in
    c.clear.ensures ∙ rw e at (closed-end cells (move_word (below cells)) _ c.loop-x.invariant.0 (c.loop-x.invariant.1 cells k))
