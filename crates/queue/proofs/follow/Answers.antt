use Prim.Native.Nat.{ℕ, ◌<◌}
use mathlib.Core.Path.{◌≡◌, ap}
use mathlib.Core.Logic.{inl, inr}
use native.Mathlib.Omega.{arith}
use lib.ListN.{length, get_or}
use Rattle.mark.specs.Marks.{Within}
use Rattle.queue.specs.Filled.{entry_of}
use Rattle.queue.proofs.Following.{Following, following-level, following-turn, following-end}
use Rattle.queue.proofs.follow.Goals as goal
use Rattle.queue.proofs.follow.Goals.{After-entry-x, Joined-i-next, then-i-next, else-i-next}

-- after the `if`, a level is under way
under-way : (c : Joined-i-next) → Following c.args.heap.now c.args.queue.now c.args.tail c.if-i-next.queue c.loop-i.t c.if-i-next.next c.loop-i.i × (c.loop-i.i < c.if-i-next.next)
under-way c =
    following-level c.loop-i.invariant (omega arith)
    (elim c.if-i-next.branch [ then-i-next w ↦ inl (w.if-i-next.true, w.queue-is, w.next-is) | else-i-next w ↦ inr (w.if-i-next.false, w.queue-is, w.next-is) ])

cell-low : (c : Joined-i-next) → (entry_of (get_or c.if-i-next.queue c.loop-i.i 0)) < length c.args.queue.now
cell-low c = let u = (under-way c).0 in omega (arith, u.same, u.fit.inside c.loop-i.i (omega (arith, u.ahead)))

cell-within : (c : Joined-i-next) → (w : ℕ) → w ≡ get_or c.args.heap.now (entry_of (get_or c.if-i-next.queue c.loop-i.i 0)) 0 → Within (length c.if-i-next.queue) c.args.heap.now w
cell-within c w e = rw e (λ x r. omega (arith, (under-way c).0.same, c.requires.0.within (entry_of (get_or c.if-i-next.queue c.loop-i.i 0)) (cell-low c) x r))

-- the word of the cell that is looked into
the_word : (c : After-entry-x) → get_or c.args.heap.now c.entry-x.result 0 ≡ get_or c.args.heap.now (entry_of (get_or c.if-i-next.queue c.loop-i.i 0)) 0
the_word c = ap (λ (x : ℕ). get_or c.args.heap.now x 0) c.entry-x.ensures

pub enter_word-t-requires : goal.enter_word-t-requires
enter_word-t-requires c =
    let u = (under-way (goal.at.enter_word-t-requires c).Joined-i-next).0 in
    (u.fit, omega (arith, u.same, c.requires.0.deep), cell-within (goal.at.enter_word-t-requires c).Joined-i-next _ (the_word (goal.at.enter_word-t-requires c).After-entry-x))

pub loop-i-preserved : goal.loop-i-preserved
loop-i-preserved c =
    let u = under-way (goal.at.loop-i-preserved c).Joined-i-next in
    let e = the_word (goal.at.loop-i-preserved c).After-entry-x in
    following-turn u.0 u.1 e (cell-within (goal.at.loop-i-preserved c).Joined-i-next _ e) c.enter_word-t.ensures

pub returns : goal.returns
returns c = following-end c.loop-i.invariant c.loop-i-test.false
