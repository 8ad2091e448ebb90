-- The number of each tag. Document 01, 'The machine's words'. Assumes nothing.
use Rattle.std.specs.Prelude.{ℕ}
use Rattle.cell.specs.declared.Tag.{Tag}
use Rattle.cell.specs.declared.Tag.TheVariants.{Var, Struct, List, Const}
use Rattle.cell.specs.Word.{VAR, STRUCT, LIST, CONST}

-- "Tags: VAR 0, STRUCT 1, LIST 2, CONST 3."
abbrev pub number_of : Tag → ℕ
number_of Var = VAR
number_of Struct = STRUCT
number_of List = LIST
number_of Const = CONST
