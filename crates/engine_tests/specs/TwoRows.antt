-- The table of the meeting test: `T`, with one column `a` of ints and the ints 1 and 2.
use Rattle.std.specs.Prelude.{ℕ, pos, List, [], ◌∷◌}
use Rattle.table_meaning.specs.declared.kind.Kind.TheVariants as kinds
use Rattle.table_meaning.specs.declared.cell.Cell.TheVariants.{Int}
use Rattle.table_meaning.specs.declared.schema.Column.{Column}
use Rattle.table_meaning.specs.Tables.{NamedTable}

abbrev pub table_name : List ℕ
table_name = 84 ∷ []

abbrev pub one_column : List Column
one_column = record { name = 97 ∷ []; kind = kinds.Int } ∷ []

abbrev pub two_rows : List NamedTable
two_rows = record { name = table_name; schema = one_column; rows = (Int (pos 1) ∷ []) ∷ (Int (pos 2) ∷ []) ∷ [] } ∷ []
