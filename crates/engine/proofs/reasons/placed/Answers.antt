-- `engine::reasons::placed` meets its contract: the area's number is the one that `area_number` gives. Assumes nothing.
use Rattle.engine.proofs.reasons.placed.Goals as goal

pub returns : goal.returns
returns c = cc
