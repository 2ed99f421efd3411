-- The columns of the first step of an optional join with a condition.
use Rattle.std.specs.Prelude.{ℕ, List, ◌∷◌, ◌++◌, map}
use Rattle.table_meaning.specs.declared.schema.Column.{Column}
use Rattle.sql_gen_step_laws.specs.Carried.{column, one}
use Rattle.sql_gen_optional_laws.specs.MatchRows.{kept}
use Rattle.sql_gen_binding_laws.specs.StepColumns.{int_column}

-- the ones, what both sides bind, and what the left side binds
abbrev pub match_schema : List ℕ → List ℕ → List Column
match_schema vs us = int_column one ∷ map (λ v. int_column (column v)) us ++ map (λ v. int_column (kept v)) vs
