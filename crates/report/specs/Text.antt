-- The text of a monthly report. Document 02, order 1, names the figures and gives no form; docs/REPORT.md has this one. Assumes nothing.
use Rattle.std.specs.Prelude.{ℕ, suc, cond, List, [], ◌∷◌, ◌++◌, eqb}
use Rattle.machine.specs.Refusals.{Verdict}
use Rattle.tally.specs.declared.Tags.{Tags}
use Rattle.tally.specs.declared.Tally.{Tally}
use Rattle.text.specs.Line.{ascii, spaced, line}
use Rattle.listing.specs.Lines.{verdict_text}
use Rattle.report.specs.declared.Month.{Month}

-- "each of the four tags", in their order
unfoldable pub tags_text : Tags → List ℕ
tags_text tags = spaced tags.var ++ (spaced tags.structure ++ (spaced tags.list ++ spaced tags.constant))

-- "heap cells kept and dropped"
unfoldable pub cells_text : Tally → List ℕ
cells_text figures = ascii " kept" ++ (tags_text figures.kept ++ (ascii " dropped" ++ tags_text figures.dropped))

-- "trail entries kept and dropped"
unfoldable pub entries_text : Tally → List ℕ
entries_text figures = ascii " trail" ++ (spaced figures.entries_kept ++ spaced figures.entries_dropped)

-- "choice points, deepest frame chain"
unfoldable pub chains_text : Tally → List ℕ
chains_text figures = ascii " points" ++ (spaced figures.points ++ (ascii " deepest" ++ (spaced figures.deepest ++ ascii "\n")))

unfoldable pub figures_text : Tally → List ℕ
figures_text figures = cells_text figures ++ (entries_text figures ++ chains_text figures)

-- "For each file": an accepted one, by its number in the input, the first being 1
unfoldable pub counted_file : ℕ → Tally → List ℕ
counted_file number figures = ascii "freeze" ++ (spaced number ++ figures_text figures)

-- a refused one, with the line of its verdict as the listing has it
unfoldable pub refused_file : ℕ → Verdict → List ℕ
refused_file number verdict = ascii "freeze" ++ (spaced number ++ (ascii " " ++ verdict_text verdict))

-- "A refused image counts under its number": a line for each number under which any image was refused, rising
unfoldable pub number_line : ℕ → ℕ → List ℕ
number_line number count = cond (eqb count 0) [] (line (ascii "refused") (number ∷ count ∷ []))

unfoldable pub number_lines : ℕ → List ℕ → List ℕ
number_lines number [] = []
number_lines number (count ∷ counts) = number_line number count ++ number_lines (suc number) counts

-- "and for all together": how many files were accepted, their figures, and the refusals
unfoldable pub closing : Month → List ℕ
closing month = ascii "all" ++ (spaced month.accepted ++ (figures_text month.total ++ number_lines 0 month.refused))
