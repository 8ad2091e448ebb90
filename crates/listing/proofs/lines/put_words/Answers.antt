-- `listing::lines::put_words` meets its contract: every word of an area is below 2 ^ 32, which bounds its digits.
-- Assumes nothing.
use Rattle.listing.proofs.Lengths.{line-short}
use Rattle.listing.proofs.lines.put_words.Goals as goal

pub returns : goal.returns
returns c = record { puts = c.put_line.ensures; short = line-short _ _ _ (λ i. (c.type_inv.words i).fits) }
