-- The columns of the last SELECT of a compiled query (this project's own).
use Rattle.std.specs.Prelude.{ℕ, zero, suc, ◌+◌, List, [], ◌∷◌, ◌++◌, codes}
use Rattle.std.specs.Fmt.{decimal}
use Rattle.table_meaning.specs.declared.kind.Kind.TheVariants.{Int, Text}
use Rattle.table_meaning.specs.declared.schema.Column.{Column}

-- the name of a place's column: a letter and the place, from 1
abbrev pub place_name : List ℕ → ℕ → List ℕ
place_name letter at = letter ++ decimal at

abbrev pub class_column : ℕ → Column
class_column at = record { name = place_name (codes "c") at; kind = Int }

abbrev pub text_column : ℕ → Column
text_column at = record { name = place_name (codes "t") at; kind = Text }

abbrev pub aux_column : ℕ → Column
aux_column at = record { name = place_name (codes "a") at; kind = Text }

-- class, text, and tag or datatype of each place, for so many places from this one on
abbrev pub place_columns : ℕ → ℕ → List Column
place_columns at zero = []
place_columns at (suc n) = class_column at ∷ text_column at ∷ aux_column at ∷ place_columns (at + 1) n

-- `one`, and then `c1`, `t1`, `a1`, `c2` and so on, for so many shown variables
abbrev pub answer_columns : ℕ → List Column
answer_columns n = record { name = codes "one"; kind = Int } ∷ place_columns 1 n
