-- `tally::Tags::fewer` meets its contract: what is taken away was counted. Assumes nothing.
use Rattle.std.proofs.Common.{rules, ◌-◌}
use Rattle.tally.specs.Figures.{of_tag}
use Rattle.tally.specs.Totals.{hit}
use Rattle.tally.proofs.Tagged.{tags-by}
use Rattle.tally.proofs.Tags.fewer.Goals as goal

pub returns : goal.returns
returns c = tags-by c.each.result (λ tag. of_tag tag c.args.self - hit c.args.word tag) (λ tag. let h = c.each.ensures tag in search rules)
