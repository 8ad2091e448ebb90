-- `functors::places::Searched::first_word` meets its contract: the first word that is found is the lowest that covers a first cell. Assumes nothing.
use Rattle.std.proofs.Common.{rules}
use lib.ListN.{get_or}
use Rattle.machine.specs.Layout.{field}
use Rattle.functors.specs.Functors.{Within}
use Rattle.functors.proofs.Seeking.{serves-words}
use Rattle.functors.proofs.places.Searched.first_word.Goals as goal

pub position-requires-clause-callable : goal.position-requires-clause-callable
unfolding field
position-requires-clause-callable c = serves-words c.args.words.now (cc) (λ q x t k. search rules) (λ x i l e.
    let w : Within (get_or c.args.self.view.control.now 5 0) c.args.self.view.heap.now x.now = rw e (c.requires i l) in
    search rules)
