-- `freeze::writing::write_file` meets its contract: the counts record, four areas and the end record are one run of bytes, each from where the one before it ended.
-- Assumes nothing.
use Prim.Native.Nat.{ℕ, ◌≤◌}
use mathlib.Core.List.{List}
use mathlib.Core.Path.{◌≡◌, ◌∙◌}
use native.Mathlib.Omega.{arith}
use lib.ListN.{length, take}
use Rattle.freeze.specs.Kinds.{CONTROL, STACK, HEAP, TRAIL, END, word_body, body_of, past}
use Rattle.freeze.specs.Thaw.{control_at}
use Rattle.freeze.specs.Freeze.{file_of, counts_record, records}
use Rattle.freeze.specs.declared.AreaCounts.{AreaCounts}
use Rattle.freeze.specs.Parts.{Writes}
use Rattle.freeze.proofs.KindLaws.{control-word, stack-word, heap-word, trail-word}
use Rattle.freeze.proofs.ThawLaws.{within-each}
use Rattle.freeze.proofs.WriteLaws.{writes-join, writes_byte, writes-same}
use Rattle.freeze.proofs.FreezeLaws.{length-counts, area-next}
use Rattle.freeze.proofs.writing.write_file.Goals as goal

-- where the records of the first area go, and those of the next, and that the output keeps its length
control-from : (n : AreaCounts) {output : List ℕ} {r : ℕ} {left : List ℕ} → Writes output 0 (counts_record n) r left → (r ≡ control_at) × (length left ≡ length output)
control-from n w = (omega (arith, w.next, length-counts n), writes-same w)

next-from : (kind n : ℕ) (area output₀ : List ℕ) {output : List ℕ} {at at' r : ℕ} {left : List ℕ} → body_of kind ≡ word_body → n ≤ length area
    → (at ≡ at') × (length output ≡ length output₀) → Writes output at (records kind (take n area)) r left → (r ≡ past at' kind n) × (length left ≡ length output₀)
next-from kind n area output₀ word fits p w = (area-next kind n area fits word w p.0, writes-same w ∙ p.1)

pub write_counts-control_at-requires : goal.write_counts-control_at-requires
write_counts-control_at-requires c = record { small = c.requires.small; control_at_in_bounds = omega (arith, c.requires.n_in_bounds) }

pub write_area-stack_at-requires : goal.write_area-stack_at-requires
write_area-stack_at-requires c =
    let control = control-from c.args.n c.write_counts-control_at.ensures in
    record { kind_value = control-word; count_in_bounds = (within-each _ _ c.requires.trail_value).control; count_in_bounds_2 = omega (arith, control, c.requires.n_in_bounds) }

pub write_area-heap_at-requires : goal.write_area-heap_at-requires
write_area-heap_at-requires c =
    let control = control-from c.args.n c.write_counts-control_at.ensures in
    let stack = next-from CONTROL _ _ c.args.output.now control-word (within-each _ _ c.requires.trail_value).control control c.write_area-stack_at.ensures in
    record { kind_value = stack-word; count_in_bounds = (within-each _ _ c.requires.trail_value).stack; count_in_bounds_2 = omega (arith, stack, c.requires.n_in_bounds) }

pub write_area-trail_at-requires : goal.write_area-trail_at-requires
write_area-trail_at-requires c =
    let control = control-from c.args.n c.write_counts-control_at.ensures in
    let stack = next-from CONTROL _ _ c.args.output.now control-word (within-each _ _ c.requires.trail_value).control control c.write_area-stack_at.ensures in
    let heap = next-from STACK _ _ c.args.output.now stack-word (within-each _ _ c.requires.trail_value).stack stack c.write_area-heap_at.ensures in
    record { kind_value = heap-word; count_in_bounds = (within-each _ _ c.requires.trail_value).heap; count_in_bounds_2 = omega (arith, heap, c.requires.n_in_bounds) }

pub write_area-end_at-requires : goal.write_area-end_at-requires
write_area-end_at-requires c =
    let control = control-from c.args.n c.write_counts-control_at.ensures in
    let stack = next-from CONTROL _ _ c.args.output.now control-word (within-each _ _ c.requires.trail_value).control control c.write_area-stack_at.ensures in
    let heap = next-from STACK _ _ c.args.output.now stack-word (within-each _ _ c.requires.trail_value).stack stack c.write_area-heap_at.ensures in
    let trail = next-from HEAP _ _ c.args.output.now heap-word (within-each _ _ c.requires.trail_value).heap heap c.write_area-trail_at.ensures in
    record { kind_value = trail-word; count_in_bounds = (within-each _ _ c.requires.trail_value).trail; count_in_bounds_2 = omega (arith, trail, c.requires.n_in_bounds) }

pub bounds-output-end_at : goal.bounds-output-end_at
bounds-output-end_at c =
    let control = control-from c.args.n c.write_counts-control_at.ensures in
    let stack = next-from CONTROL _ _ c.args.output.now control-word (within-each _ _ c.requires.trail_value).control control c.write_area-stack_at.ensures in
    let heap = next-from STACK _ _ c.args.output.now stack-word (within-each _ _ c.requires.trail_value).stack stack c.write_area-heap_at.ensures in
    let trail = next-from HEAP _ _ c.args.output.now heap-word (within-each _ _ c.requires.trail_value).heap heap c.write_area-trail_at.ensures in
    let end = next-from TRAIL _ _ c.args.output.now trail-word (within-each _ _ c.requires.trail_value).trail trail c.write_area-end_at.ensures in
    omega (arith, end, c.requires.n_in_bounds)

pub returns : goal.returns
unfolding file_of
returns c =
    (writes-join c.write_counts-control_at.ensures
    (writes-join c.write_area-stack_at.ensures
    (writes-join c.write_area-heap_at.ensures
    (writes-join c.write_area-trail_at.ensures (writes-join c.write_area-end_at.ensures (writes_byte _ _ END)))))).written
