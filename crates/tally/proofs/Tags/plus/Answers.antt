-- `tally::Tags::plus` meets its contract: each sum has room. Assumes nothing.
use Rattle.std.proofs.Common.{rules, ◌+◌}
use Rattle.tally.specs.Figures.{of_tag}
use Rattle.tally.proofs.Tagged.{tags-by}
use Rattle.tally.proofs.Tags.plus.Goals as goal

pub returns : goal.returns
returns c = tags-by c.each.result (λ tag. of_tag tag c.args.self + of_tag tag c.args.other) (λ tag. let h = c.each.ensures tag in search rules)
