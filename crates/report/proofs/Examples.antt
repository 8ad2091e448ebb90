-- The lines of docs/REPORT.md are what the definitions say. Assumes nothing.
use mathlib.Core.Path.{◌≡◌, refl}
use mathlib.Core.List.{◌++◌}
use Rattle.machine.specs.declared.Area.TheVariants.{Heap}
use Rattle.machine.specs.Refusals.{in_area, refused}
use Rattle.listing.specs.Text.{file_text, refused_text, place_text}
use Rattle.listing.specs.Lines.{verdict_text}
use Rattle.text.specs.Decimal.{digits}
use Rattle.text.specs.Line.{ascii, spaced, numbers, line}
use Rattle.report.specs.Text.{tags_text, cells_text, entries_text, chains_text, figures_text, counted_file, refused_file, number_line, number_lines, closing}
use Rattle.report.specs.Reports.{begun, with_refused}

opened : Unit {0}
unfolding digits spaced numbers line tags_text cells_text entries_text chains_text figures_text counted_file refused_file number_line number_lines closing with_refused file_text refused_text place_text verdict_text
opened = tt

-- an accepted file
accepted-file : counted_file 1
    (record {
      kept = record { var = 1; structure = 0; list = 1; constant = 4 };
      dropped = record { var = 1; structure = 0; list = 0; constant = 2 };
      entries_kept = 2;
      entries_dropped = 1;
      points = 1;
      deepest = 1;
    })
    ≡ ascii "freeze 1 kept 1 0 1 4 dropped 1 0 0 2 trail 2 1 points 1 deepest 1\n"
unfolding opened
accepted-file = refl

-- a refused one
refused-file : refused_file 2 (refused 6 (in_area Heap 4)) ≡ ascii "freeze 2 refused 6 heap 4\n"
unfolding opened
refused-file = refl

-- an empty input
empty-input : closing begun ++ ascii "end\n" ≡ ascii "all 0 kept 0 0 0 0 dropped 0 0 0 0 trail 0 0 points 0 deepest 0\nend\n"
unfolding opened
empty-input = refl

-- refusals in rising order, each with its number of images, and a bad file
refusals : closing (with_refused 68 3 (with_refused 70 7 (with_refused 68 3 begun))) ++ file_text 10 1234
    ≡ ascii "all 0 kept 0 0 0 0 dropped 0 0 0 0 trail 0 0 points 0 deepest 0\nrefused 3 2\nrefused 7 1\nfile 10 1234\n"
unfolding opened
refusals = refl
