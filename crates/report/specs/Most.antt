-- How long the lines of a report can be. Assumes nothing.
use Rattle.std.specs.Prelude.{ℕ, ◌+◌, ◌*◌}
use Rattle.text.specs.Puts.{number_most}
use Rattle.listing.specs.Lists.{line_most}

abbrev pub tags_most : ℕ
tags_most = 4 * number_most

abbrev pub cells_most : ℕ
cells_most = 13 + 2 * tags_most

abbrev pub entries_most : ℕ
entries_most = 6 + 2 * number_most

abbrev pub chains_most : ℕ
chains_most = 16 + 2 * number_most

abbrev pub figures_most : ℕ
figures_most = cells_most + entries_most + chains_most

abbrev pub counted_most : ℕ
counted_most = 6 + number_most + figures_most

abbrev pub refused_file_most : ℕ
refused_file_most = 7 + number_most + line_most

abbrev pub number_line_most : ℕ
number_line_most = 8 + 2 * number_most

-- the numbers of refusals are below this
abbrev pub numbers : ℕ
numbers = 32

abbrev pub number_lines_most : ℕ
number_lines_most = numbers * number_line_most

abbrev pub closing_most : ℕ
closing_most = 3 + number_most + figures_most + number_lines_most

-- no step puts more: the closing lines and the last line
abbrev pub step_most : ℕ
step_most = closing_most + line_most
