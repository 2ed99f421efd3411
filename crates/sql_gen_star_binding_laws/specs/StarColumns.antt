-- The columns of the steps of a star (this project's own).
use Rattle.std.specs.Prelude.{ℕ, List, ◌∷◌, ◌++◌, map}
use Rattle.table_meaning.specs.declared.schema.Column.{Column}
use Rattle.sql_gen_step_laws.specs.Carried.{column, one}
use Rattle.sql_gen_binding_laws.specs.StepColumns.{int_column}
use Rattle.sql_gen_star_meaning.specs.Partials.{cell_name}

-- the ones, the numbers of the terms of the variables vs, and the cells of these arms
abbrev pub partial_schema : List ℕ → List ℕ → List Column
partial_schema vs cells = int_column one ∷ (map (λ v. int_column (column v)) vs ++ map (λ i. int_column (cell_name i)) cells)
