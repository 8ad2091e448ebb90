-- `freeze::reading::thaw` meets its contract: the areas are filled only from a file that has passed every stage, and each from where its records start.
-- Assumes nothing.
use Prim.Native.Nat.{ℕ}
use mathlib.Core.List.{List}
use mathlib.Core.Path.{◌≡◌, sym, ap, ◌∙◌}
use native.Mathlib.Omega.{arith}
use Rattle.std.proofs.lemmas.Result.{err_from_is_err_and}
use Rattle.freeze.specs.declared.AreaCounts.{AreaCounts}
use Rattle.freeze.specs.declared.FileRefusal.TheVariants.{Sizes}
use Rattle.freeze.specs.Kinds.{CONTROL, STACK, HEAP, TRAIL, past}
use Rattle.freeze.specs.Verdicts.{accepted, first_of}
use Rattle.freeze.specs.Records.{words}
use Rattle.freeze.specs.Thaw.{counts_in, control_at, image_in, file_stages, front, filled}
use Rattle.freeze.proofs.KindLaws.{control-word, stack-word, heap-word, trail-word}
use Rattle.freeze.proofs.Filling.{whole_from}
use Rattle.freeze.proofs.ThawLaws.{within-each, Passed, file-passed, legal-verdict, illegal-verdict, thaws-refused, thaws-accepted}
use Rattle.freeze.proofs.reading.thaw.Goals as goal

-- what the check of the file says, where it answers counts
passed : (lent room n : AreaCounts) (file : List ℕ) → room ≡ lent → (first_of (file_stages room file) ≡ accepted) × (n ≡ counts_in file) → Passed lent n file
passed lent room n file e g = rw (← e, g.1) (file-passed room file g.0)

-- where the records of the next area start
next-from : (kind n : ℕ) {from at r : ℕ} → r ≡ past from kind n → from ≡ at → r ≡ past at kind n
next-from kind n e f = e ∙ ap (λ (x : ℕ). past x kind n) f

pub returns-then-not-legal : goal.returns-then-not-legal
returns-then-not-legal c = thaws-refused _ _ Sizes (illegal-verdict _ _ (sym c.if-not-legal.ensures))

pub returns-in_err-n : goal.returns-in_err-n
returns-in_err-n c =
    let p = err_from_is_err_and c.from_residual.result c.from_residual.ensures.1 in
    rw (p.1, p.2) (thaws-refused _ _ _ (legal-verdict _ _ (sym c.if-not-legal.ensures) ∙ ap (λ (room : AreaCounts). first_of (file_stages room c.args.file.now)) (sym c.lengths_of.ensures) ∙ c.in_err-n.ensures))

pub fill-stack_at-requires : goal.fill-stack_at-requires
fill-stack_at-requires c =
    let p = passed _ _ _ _ c.lengths_of.ensures c.in_ok-n.ensures in
    let at : c.record_size.result ≡ control_at = omega (arith, c.record_size.ensures) in
    record { whole = whole_from at control-word p.control; count_in_bounds = (within-each _ _ p.room).control }

pub fill-heap_at-requires : goal.fill-heap_at-requires
fill-heap_at-requires c =
    let p = passed _ _ _ _ c.lengths_of.ensures c.in_ok-n.ensures in
    let at : c.record_size.result ≡ control_at = omega (arith, c.record_size.ensures) in
    let stack = next-from CONTROL _ c.fill-stack_at.ensures.next at in
    record { whole = whole_from stack stack-word p.stack; count_in_bounds = (within-each _ _ p.room).stack }

pub fill-trail_at-requires : goal.fill-trail_at-requires
fill-trail_at-requires c =
    let p = passed _ _ _ _ c.lengths_of.ensures c.in_ok-n.ensures in
    let at : c.record_size.result ≡ control_at = omega (arith, c.record_size.ensures) in
    let stack = next-from CONTROL _ c.fill-stack_at.ensures.next at in
    let heap = next-from STACK _ c.fill-heap_at.ensures.next stack in
    record { whole = whole_from heap heap-word p.heap; count_in_bounds = (within-each _ _ p.room).heap }

pub fill-requires : goal.fill-requires
fill-requires c =
    let p = passed _ _ _ _ c.lengths_of.ensures c.in_ok-n.ensures in
    let at : c.record_size.result ≡ control_at = omega (arith, c.record_size.ensures) in
    let stack = next-from CONTROL _ c.fill-stack_at.ensures.next at in
    let heap = next-from STACK _ c.fill-heap_at.ensures.next stack in
    let trail = next-from HEAP _ c.fill-trail_at.ensures.next heap in
    record { whole = whole_from trail trail-word p.trail; count_in_bounds = (within-each _ _ p.room).trail }

pub returns : goal.returns
unfolding filled image_in
returns c =
    let a = c.args in
    let n = c.in_ok-n.n in
    let good = c.in_ok-n.ensures in
    let at : c.record_size.result ≡ control_at = omega (arith, c.record_size.ensures) in
    let stack-from = next-from CONTROL _ c.fill-stack_at.ensures.next at in
    let heap-from = next-from STACK _ c.fill-heap_at.ensures.next stack-from in
    let trail-from = next-from HEAP _ c.fill-trail_at.ensures.next heap-from in
    thaws-accepted _ _ n _ (legal-verdict _ _ (sym c.if-not-legal.ensures) ∙ ap (λ (room : AreaCounts). first_of (file_stages room a.file.now)) (sym c.lengths_of.ensures) ∙ good.0) good.1
    (λ i. record {
      control = (c.fill-stack_at.ensures.filled ∙ ap (λ (x : ℕ). front a.control.now (words a.file.now CONTROL x n.control)) at) i;
      stack = (c.fill-heap_at.ensures.filled ∙ ap (λ (x : ℕ). front a.stack.now (words a.file.now STACK x n.stack)) stack-from) i;
      heap = (c.fill-trail_at.ensures.filled ∙ ap (λ (x : ℕ). front a.heap.now (words a.file.now HEAP x n.heap)) heap-from) i;
      trail = (c.fill.ensures.filled ∙ ap (λ (x : ℕ). front a.trail.now (words a.file.now TRAIL x n.trail)) trail-from) i;
    })
