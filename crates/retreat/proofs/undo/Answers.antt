use borrow.Author.Rules.{rules}
use Rattle.std.proofs.lemmas.List.{places}
use Rattle.retreat.proofs.Undoing.{undid-none, undid-more}
use Rattle.retreat.proofs.undo.Goals as goal

pub loop-entry-init : goal.loop-entry-init
loop-entry-init c = undid-none _ _ _ _

pub loop-entry-preserved : goal.loop-entry-preserved
loop-entry-preserved c = undid-more c.loop-entry.entry-index c.loop-entry.invariant (search (rules, places)) c.undo_entry.ensures
