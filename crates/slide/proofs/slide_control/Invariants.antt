-- `slide::slide_control` meets its contract. The loop's invariant: the saved arguments passed are moved, and the others are as they were.
-- Assumes nothing.
use Rattle.machine.proofs.InPlace.{InPlace}
use Rattle.slide.proofs.Controls.{Becomes}
use Rattle.slide.proofs.slide_control.Given as goal

abbrev pub invariant-loop-word : goal.invariant-loop-word
invariant-loop-word l = InPlace (Becomes l.counts) l.initial.word-items l.word-items l.word-index
