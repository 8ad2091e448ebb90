use Prim.Native.Nat.{◌<◌}
use mathlib.Core.Path.{◌≡◌, refl}
use native.Mathlib.Omega.{arith}
use borrow.Author.Rules.{rules}
use lib.ListN.{length, length-append, get_or}
use Rattle.std.proofs.lemmas.Slice.Zip.{zip_turn}
use Rattle.cell.specs.Word.{value_of}
use Rattle.machine.proofs.FirstCells.{to-iff}
use Rattle.functors.specs.Functors.{stack_to}
use Rattle.functors.proofs.Flagging.{flags-none, flags-more, flags-skip, cell_to, cell-flagged, no_cell_lem}
use Rattle.functors.proofs.flags.flag_stack.Goals as goal
use Rattle.functors.proofs.flags.flag_stack.Goals.{In-Some}

-- the stack word and the note that a turn reads
turn : (c : In-Some) → (length c.loop-word.yielded < length c.args.stack.now) × (c.in-Some.word.now ≡ get_or c.args.stack.now (length c.loop-word.yielded) 0) × (c.in-Some.note.now ≡ get_or c.args.notes.now (length c.loop-word.yielded) 0)
turn c =
    let start = c.into_iter-word-iterator.result in
    let z = zip_turn c.args.stack.now c.args.notes.now c.loop-word.yielded start c.loop-word.word-iterator c.next.new.self _ (search rules) (search rules) c.loop-word.yielded_by (c.in-Some.word, c.in-Some.note) c.in-Some.is c.next.ensures.steps in
    (z.0, z.2 0, z.3 0)

pub loop-word-init : goal.loop-word-init
loop-word-init c = flags-none _ _

pub flag_word-met-requires : goal.flag_word-met-requires
flag_word-met-requires c =
    λ e.
    let i = length c.loop-word.yielded in
    let t = turn (goal.at.flag_word-met-requires c).In-Some in
    let picked : get_or c.args.notes.now (length c.loop-word.yielded) 0 ≡ 1 = omega arith in
    let s = rw t.1 at e in
    let m = cell_to c.args.stack.now c.args.notes.now i picked _ ((to-iff _ _).1 (record { struct = s; first = refl })) in
    rw t.1 (omega (arith, c.requires.1.below i (value_of (get_or c.args.stack.now i 0)) t.0 m, c.loop-word.invariant.same))

pub loop-word-preserved-then-note-eq-CELL : goal.loop-word-preserved-then-note-eq-CELL
loop-word-preserved-then-note-eq-CELL c =
    let t = turn (goal.at.loop-word-preserved-then-note-eq-CELL c).In-Some in
    let picked : get_or c.args.notes.now (length c.loop-word.yielded) 0 ≡ 1 = omega arith in
    let f = cell-flagged c.args.stack.now c.args.notes.now (length c.loop-word.yielded) picked (rw t.1 at c.flag_word-met.ensures) in
    rw length-append (flags-more (stack_to c.args.stack.now c.args.notes.now 0) c.loop-word.invariant f)

pub loop-word-preserved : goal.loop-word-preserved
loop-word-preserved c =
    let t = turn (goal.at.loop-word-preserved c).In-Some in
    let other : get_or c.args.notes.now (length c.loop-word.yielded) 0 ≡ 1 → ⊥ = λ e. c.if-note-eq-CELL.false (omega arith) in
    let f = no_cell_lem c.args.stack.now c.args.notes.now (length c.loop-word.yielded) other in
    rw length-append (flags-skip (stack_to c.args.stack.now c.args.notes.now 0) c.loop-word.invariant f)
