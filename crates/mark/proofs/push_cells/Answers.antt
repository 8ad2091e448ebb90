use Prim.Native.Nat.{◌<◌}
use mathlib.Core.Path.{◌≡◌}
use native.Mathlib.Omega.{arith}
use borrow.Author.Rules.{rules}
use lib.ListN.{length, length-append, get_or}
use Rattle.std.proofs.lemmas.Slice.Zip.{zip_turn}
use Rattle.mark.specs.Whole.{at}
use Rattle.mark.proofs.Stacks.{pushable-part, pushable-after, pushed_none}
use Rattle.mark.proofs.Whole.{passable-pushed, whole-at, from_named, picked_more}
use Rattle.mark.proofs.Roots.{named_more, named-skip}
use Rattle.mark.proofs.push_cells.Goals as goal
use Rattle.mark.proofs.push_cells.Goals.{In-Some}

-- the stack word and the note that a turn reads
turn : (c : In-Some) → (length c.loop-word.yielded < length c.args.stack.now) × (c.in-Some.word.now ≡ get_or c.args.stack.now (length c.loop-word.yielded) 0) × (c.in-Some.note.now ≡ get_or c.args.notes.now (length c.loop-word.yielded) 0)
turn c =
    let start = c.into_iter-word-iterator.result in
    let z = zip_turn c.args.stack.now c.args.notes.now c.loop-word.yielded start c.loop-word.word-iterator c.next.new.self _ (search rules) (search rules) c.loop-word.yielded_by (c.in-Some.word, c.in-Some.note) c.in-Some.is c.next.ensures.steps in
    (z.0, z.2 0, z.3 0)

pub loop-word-init : goal.loop-word-init
loop-word-init c = pushed_none _ _ (λ x r. omega (arith, r.below))

pub push_word-t-requires : goal.push_word-t-requires
push_word-t-requires c =
    let t = turn (goal.at.push_word-t-requires c).In-Some in
    let picked : get_or c.args.notes.now (length c.loop-word.yielded) 0 ≡ 1 = omega arith in
    let v = c.loop-word.invariant in
    let k = c.requires in
    rw t.1 (
      pushable-part (pushable-after k.pushable v) (λ x r. record { at = length c.loop-word.yielded; below = t.0; picked = picked; refers = r }),
      whole-at (passable-pushed k.passable (from_named (picked_more (omega arith))) v) _ (at (length c.loop-word.yielded) t.0 picked),
    )

pub loop-word-preserved-then-note-eq-CELL : goal.loop-word-preserved-then-note-eq-CELL
loop-word-preserved-then-note-eq-CELL c =
    let t = turn (goal.at.loop-word-preserved-then-note-eq-CELL c).In-Some in
    let picked : get_or c.args.notes.now (length c.loop-word.yielded) 0 ≡ 1 = omega arith in
    rw length-append (named_more c.loop-word.invariant picked (rw t.1 at c.push_word-t.ensures))

pub loop-word-preserved : goal.loop-word-preserved
loop-word-preserved c =
    let t = turn (goal.at.loop-word-preserved c).In-Some in
    rw length-append (named-skip c.loop-word.invariant (λ e. c.if-note-eq-CELL.false (omega arith)))
