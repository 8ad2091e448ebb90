-- `listing::list` meets its contract: a file that is not read, an image that is refused, and a collection, each with its outcome (`Listings`). The stack's front is lent to the collector and is put back before the rest.
-- Assumes nothing.
use Prim.Native.Nat.{ℕ, ◌≤◌}
use mathlib.Core.Path.{◌≡◌, refl, sym, ◌∙◌, subst}
use mathlib.Core.List.{[], ◌++◌}
use native.Mathlib.Omega.{arith}
use lib.ListN.{length, take, drop, length-append, length-take, length-drop}
use lib.Seq.{length-take-le}
use Rattle.machine.specs.Layout.{Image}
use Rattle.machine.specs.Answers.{answer_of, Collects}
use Rattle.machine.specs.declared.Collected.{Collected}
use Rattle.freeze.specs.RoundTrips.{just_stack}
use Rattle.freeze.specs.Thaw.{image_of, Thaws}
use Rattle.std.specs.Prelude.{Result, Ok}
use Rattle.freeze.specs.declared.AreaCounts.{AreaCounts}
use Rattle.freeze.specs.declared.FileRefusal.{FileRefusal}
use Rattle.machine.specs.declared.Refusal.{Refusal}
use Rattle.listing.specs.Lists.{joined, text_most}
use Rattle.listing.proofs.Listings.{puts-counts, lists-bad, lists-refused, lists-done, read_fits}
use Rattle.listing.proofs.list.Goals as goal
use Rattle.listing.proofs.list.Goals.{In-Ok, After-collect}

-- the file, the lent areas, and what the reader left of them
abbrev lent : In-Ok → Image
lent c = image_of c.args.control.now c.args.stack.now c.args.heap.now c.args.trail.now

abbrev areas : In-Ok → Image
areas c = image_of c.thaw.new.control c.thaw.new.stack c.thaw.new.heap c.thaw.new.trail

thaws : (c : In-Ok) → Thaws c.args.file.now (lent c) (Ok c.in-Ok.counts) (areas c)
thaws c = subst (λ (r : Result AreaCounts FileRefusal). Thaws c.args.file.now (lent c) r (areas c)) c.in-Ok.is c.thaw.ensures

front_fits : (c : In-Ok) → c.in-Ok.counts.stack ≤ length c.thaw.new.stack
front_fits c = omega (arith, (read_fits c.args.file.now (lent c) [] c.in-Ok.counts (areas c) (thaws c)).0, c.thaw.auto.stack)

-- what the collector left, of the stack its front alone
abbrev leaves : After-collect → Image
leaves c = image_of c.collect.new.control c.collect.new.stack c.collect.new.heap c.collect.new.trail

-- the front of a stack, and the rest behind what is put for the front
module _ (n : ℕ) (X Y : Image) (f : n ≤ length X.stack) (s : length Y.stack ≡ length (take n X.stack)) where
  abbrev left : Image
  left = image_of Y.control (Y.stack ++ drop n X.stack) Y.heap Y.trail

  front-is : length Y.stack ≡ n
  front-is = s ∙ length-take-le n X.stack f

  stack_same : length (Y.stack ++ drop n X.stack) ≡ length X.stack
  stack_same = omega (arith, length-append Y.stack (drop n X.stack), length-drop n X.stack, front-is, f)

  left_is : left ≡ joined X Y
  unfolding joined
  left_is = λ i. image_of Y.control (Y.stack ++ drop (sym front-is i) X.stack) Y.heap Y.trail

pub returns-in-Err : goal.returns-in-Err
returns-in-Err c =
    let lent = image_of c.args.control.now c.args.stack.now c.args.heap.now c.args.trail.now in
    let left = image_of c.thaw.new.control c.thaw.new.stack c.thaw.new.heap c.thaw.new.trail in
    let t = subst (λ (r : Result AreaCounts FileRefusal). Thaws c.args.file.now lent r left) c.in-Err.is c.thaw.ensures in
    let p = c.put_bad_file.ensures in
    record { lists = lists-bad c.args.file.now lent c.args.work.now _ left t p; counts_bytes = puts-counts p.puts }

pub slice_bounds-stack-end : goal.slice_bounds-stack-end
slice_bounds-stack-end c = front_fits (goal.at.slice_bounds-stack-end c).In-Ok

pub slice_bounds-stack-end-2 : goal.slice_bounds-stack-end-2
slice_bounds-stack-end-2 c = sym (length-take-le _ _ (front_fits (goal.at.slice_bounds-stack-end-2 c).In-Ok))

pub put_collected-requires : goal.put_collected-requires
put_collected-requires c =
    let k = (goal.at.put_collected-requires c).In-Ok in
    omega (arith, (read_fits c.args.file.now (lent k) [] c.in-Ok.counts (areas k) (thaws k)).1, c.thaw.auto.control, c.collect.auto.control)

pub returns-in-Ok-collect : goal.returns-in-Ok-collect
unfolding answer_of
returns-in-Ok-collect c =
    let k = (goal.at.returns-in-Ok-collect c).In-Ok in
    let m = (goal.at.returns-in-Ok-collect c).After-collect in
    let n = c.in-Ok.counts.stack in
    let Y = leaves m in
    let s = c.collect.auto.stack in
    let d = subst (λ (r : Result Collected Refusal). Collects (just_stack n (areas k)) c.args.work.now r Y c.collect.new.work) c.in-Ok-collect.is c.collect.ensures in
    let p = c.put_collected.ensures in
    let most : text_most Y ≤ text_most (lent k) =
    omega (arith, s, length-take n c.thaw.new.stack, c.collect.auto.control, c.thaw.auto.control, c.thaw.auto.stack, c.collect.auto.heap, c.thaw.auto.heap, c.collect.auto.trail, c.thaw.auto.trail)
    in
    record {
      lists = lists-done c.args.file.now (lent k) _ c.in-Ok.counts (areas k) (thaws k) Y _ _ Y (left n (areas k) Y (front_fits k) s) refl (left_is n (areas k) Y (front_fits k) s) most d p;
      counts_bytes = puts-counts p.puts;
    }

pub returns-in-Err-collect : goal.returns-in-Err-collect
returns-in-Err-collect c =
    let k = (goal.at.returns-in-Err-collect c).In-Ok in
    let m = (goal.at.returns-in-Err-collect c).After-collect in
    let n = c.in-Ok.counts.stack in
    let Y = leaves m in
    let s = c.collect.auto.stack in
    let d = subst (λ (r : Result Collected Refusal). Collects (just_stack n (areas k)) c.args.work.now r Y c.collect.new.work) c.in-Err-collect.is c.collect.ensures in
    let p = c.put_refusal.ensures in
    record {
      lists = lists-refused c.args.file.now (lent k) _ c.in-Ok.counts (areas k) (thaws k) Y _ _ (left n (areas k) Y (front_fits k) s) (left_is n (areas k) Y (front_fits k) s) d p;
      counts_bytes = puts-counts p.puts;
    }
