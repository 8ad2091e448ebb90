-- `functors::flags::flag_all` meets its contract: three sets are flagged, one after the other, in the heap's part of the work words, and the
-- notes behind it stay. Assumes nothing.
use mathlib.Core.Path.{refl}
use native.Mathlib.Omega.{arith}
use lib.ListN.{length}
use Rattle.machine.specs.Layout.{field}
use Rattle.functors.specs.Functors.{heap_to, control_to, first_in}
use Rattle.functors.proofs.Flagging.{flags-three, part-aims, part-flags, noted-aims, noted-flags, flags-beside}
use Rattle.functors.proofs.Slices.{heap-part, control-part}
use Rattle.functors.proofs.Passing.{heap-aims, stack-aims, control-aims, aims-up}
use Rattle.functors.proofs.flags.flag_all.Goals as goal

pub flag_stack-on_stack-requires : goal.flag_stack-on_stack-requires
flag_stack-on_stack-requires c =
    let p = c.requires in
    let s = c.split_at_mut-front.ensures in
    (omega (arith, p.room, s.back_len), aims-up (noted-aims _ _ s.value s.front_len c.args.view.stack.now (stack-aims p)) _ (omega (arith, p.behind, s.front_len)))

pub flag_words-in_control-requires : goal.flag_words-in_control-requires
unfolding field control_to
flag_words-in_control-requires c =
    let p = c.requires in
    let s = c.split_at_mut-front.ensures in
    part-aims (control-part _ _ p.arguments) (control_to c.args.view.control.now) (λ i x. refl) (aims-up (control-aims p) _ (omega (arith, p.behind, s.front_len, c.flag_stack-on_stack.ensures.same)))

pub flag_words-on_heap-requires : goal.flag_words-on_heap-requires
unfolding field heap_to
flag_words-on_heap-requires c =
    let p = c.requires in
    let s = c.split_at_mut-front.ensures in
    part-aims (heap-part _ _ p.top) (heap_to c.args.view.heap.now) (λ i x. refl) (aims-up (heap-aims p) _ (omega (arith, p.behind, s.front_len, c.flag_stack-on_stack.ensures.same, c.flag_words-in_control.ensures.same)))

pub returns : goal.returns
unfolding first_in field heap_to control_to
returns c =
    let p = c.requires in
    let s = c.split_at_mut-front.ensures in
    flags-beside _ _ s.value s.front_len
    (flags-three (noted-flags _ _ s.value s.front_len c.args.view.stack.now (length c.args.view.stack.now) c.flag_stack-on_stack.ensures)
    (part-flags (control-part _ _ p.arguments) (control_to c.args.view.control.now) (λ i x. refl) c.flag_words-in_control.ensures)
    (part-flags (heap-part _ _ p.top) (heap_to c.args.view.heap.now) (λ i x. refl) c.flag_words-on_heap.ensures))
