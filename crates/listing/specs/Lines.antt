-- The line of a verdict, for the functions that put one: what they promise of each refusal at once. Assumes nothing.
use Rattle.std.specs.Prelude.{ℕ, List, []}
use Rattle.machine.specs.Refusals.{Verdict, accepted, refused}
use Rattle.freeze.specs.Verdicts as files
use Rattle.listing.specs.Text.{refused_text, file_text}

-- the line of a refusal, and none of an acceptance
unfoldable pub verdict_text : Verdict → List ℕ
verdict_text accepted = []
verdict_text (refused number place) = refused_text number place

unfoldable pub file_verdict_text : files.FileVerdict → List ℕ
file_verdict_text files.accepted = []
file_verdict_text (files.refused number offset) = file_text number offset
