use Prim.Native.Nat.{◌<◌}
use mathlib.Core.Path.{◌≡◌, sym, ◌∙◌}
use native.Mathlib.Omega.{arith}
use borrow.Author.Rules.{rules}
use lib.ListN.{length, length-append, get_or}
use Rattle.std.proofs.lemmas.Slice.Zip.{zip_turn}
use Rattle.queue.specs.Entering.{none, stack_word}
use Rattle.queue.proofs.Entering.{all_more, readable-after}
use Rattle.queue.proofs.Below.{stack-cell, stack-nothing, all-skip}
use Rattle.queue.proofs.enter_cells.Goals as goal
use Rattle.queue.proofs.enter_cells.Goals.{In-Some}

-- the stack word and the note that a turn reads
turn : (c : In-Some) → (length c.loop-word.yielded < length c.args.stack.now) × (c.in-Some.word.now ≡ get_or c.args.stack.now (length c.loop-word.yielded) 0) × (c.in-Some.note.now ≡ get_or c.args.notes.now (length c.loop-word.yielded) 0)
turn c =
    let start = c.into_iter-word-iterator.result in
    let z = zip_turn c.args.stack.now c.args.notes.now c.loop-word.yielded start c.loop-word.word-iterator c.next.new.self _ (search rules) (search rules) c.loop-word.yielded_by (c.in-Some.word, c.in-Some.note) c.in-Some.is c.next.ensures.steps in
    (z.0, z.2 0, z.3 0)

picked : (c : In-Some) → c.in-Some.note.now ≡ 1 → stack_word c.args.stack.now c.args.notes.now (length c.loop-word.yielded) ≡ c.in-Some.word.now
picked c e = let t = turn c in stack-cell _ _ _ (sym t.2 ∙ e) ∙ sym t.1

pub loop-word-init : goal.loop-word-init
loop-word-init c = none

pub enter_word-t-requires : goal.enter_word-t-requires
enter_word-t-requires c =
    let s = (goal.at.enter_word-t-requires c).In-Some in
    let t = turn s in
    let b = readable-after c.requires.readable (omega arith) c.loop-word.invariant in
    (b.fit, b.deep, rw (picked s c.if-note-eq-CELL.true) at (b.within (length c.loop-word.yielded) t.0))

pub loop-word-preserved-then-note-eq-CELL : goal.loop-word-preserved-then-note-eq-CELL
loop-word-preserved-then-note-eq-CELL c =
    let s = (goal.at.loop-word-preserved-then-note-eq-CELL c).In-Some in
    rw length-append (all_more _ _ (picked s c.if-note-eq-CELL.true) c.loop-word.invariant c.enter_word-t.ensures)

pub loop-word-preserved : goal.loop-word-preserved
loop-word-preserved c =
    let t = turn (goal.at.loop-word-preserved c).In-Some in
    rw length-append (all-skip _ (stack-nothing _ _ _ (λ e. c.if-note-eq-CELL.false (t.2 ∙ e))) c.loop-word.invariant)
