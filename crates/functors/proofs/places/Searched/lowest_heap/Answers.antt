-- `functors::places::Searched::lowest_heap` meets its contract: a heap without a flag in question has no such index, else it is looked for. Assumes nothing.
use lib.ListN.{get_or}
use Rattle.machine.specs.Layout.{field}
use Rattle.functors.specs.Functors.{covers_heap, Within, Off}
use Rattle.functors.proofs.Slices.{heap-part, each-word, each-read}
use Rattle.functors.proofs.Seeking.{heap-lowest}
use Rattle.functors.proofs.Covering.{off-covers}
use Rattle.functors.proofs.places.Searched.lowest_heap.Goals as goal

pub returns-then-heap_off : goal.returns-then-heap_off
unfolding field covers_heap
returns-then-heap_off c =
    λ firsts t i l.
    let k = c.args.self.searchable.contained in
    off-covers t.tallied c.if-self-eq0.true _ (t.owns.of_heap i l) (k.of_heap i l) (k.named i l)
    (each-read _ _ _ (heap-part _ _ k.top) (Off c.args.self.work.now) (c.heap_off.ensures c.if-heap_off.true) i l)

pub first_word-requires : goal.first_word-requires
unfolding field
first_word-requires c =
    let k = c.args.self.searchable.contained in
    each-word _ _ _ (heap-part _ _ k.top) (Within (get_or c.args.self.view.control.now 5 0) c.args.self.view.heap.now) k.of_heap

pub returns : goal.returns
unfolding field
returns c = λ firsts t. heap-lowest c.args.self.searchable.contained t _ c.first_word.ensures.lowest
