-- `chains::note_cells` meets its contract: the words that were passed have gained the role. Assumes nothing.
use Rattle.machine.specs.Roles.{cell, code_of}
use Rattle.chains.specs.Noting.{Gains}
use Rattle.chains.proofs.note_cells.Given as goal

abbrev pub invariant-loop-note : goal.invariant-loop-note
invariant-loop-note l = Gains (λ j. code_of cell) 0 l.note-index l.initial.note-items l.note-items
