-- The rows of sources (this project's own): one left row at a time, with each right row in order.
use Rattle.std.specs.Prelude.{ℕ, if◌then◌else◌, List, [], ◌∷◌, map, Option, Some, None}
use Rattle.std.specs.List.{flat_map, filter}
use Rattle.std.specs.Str.{bytes_eq}
use Rattle.table_meaning.specs.declared.cell.Cell.{Cell}
use Rattle.table_meaning.specs.declared.cell.Cell.TheVariants.{Null}
use Rattle.sql_meaning.specs.declared.expression.SqlExpr.{SqlExpr}
use Rattle.sql_meaning.specs.declared.script.Source.{Source}
use Rattle.sql_meaning.specs.declared.script.JoinTo.{JoinTo}
use Rattle.sql_rows_meaning.specs.Values.{Sight, is_true, value_of}
use Rattle.sql_rows_meaning.specs.Tables.{Relations, cell_under}

abbrev pub nothing_in_sight : Sight
nothing_in_sight alias column = Null

-- one more row in sight, under an alias
abbrev pub with_row : List ℕ → List (List ℕ) → List Cell → Sight → Sight
with_row alias columns cells sight a c = if bytes_eq a alias then cell_under columns cells c else sight a c

-- each row of a source beside what is in sight
abbrev pub with_source : Relations → Source → Sight → List Sight
with_source relations s sight = map (λ row. with_row s.alias (relations s.table).columns row sight) (relations s.table).rows

-- those of which the condition is true
abbrev pub where_true : SqlExpr → List Sight → List Sight
where_true e sights = filter (λ sight. is_true (value_of e sight)) sights

-- nulls in the place of a row, where none was found
abbrev pub or_nulls : Relations → Source → Sight → List Sight → List Sight
or_nulls relations s sight [] = with_row s.alias (relations s.table).columns [] sight ∷ []
or_nulls relations s sight (found ∷ others) = found ∷ others

-- JOIN keeps the rows for which the condition is true; LEFT JOIN keeps a left row without such a row once, with nulls
abbrev pub joined_to : Relations → JoinTo → Sight → List Sight
joined_to relations j sight =
    if j.left then or_nulls relations j.source sight (where_true j.on (with_source relations j.source sight))
    else where_true j.on (with_source relations j.source sight)

abbrev pub all_joined : Relations → List JoinTo → List Sight → List Sight
all_joined relations [] sights = sights
all_joined relations (j ∷ joins) sights = all_joined relations joins (flat_map (joined_to relations j) sights)

-- a SELECT without FROM has one row
abbrev pub first_rows : Relations → Option Source → List Sight
first_rows relations None = nothing_in_sight ∷ []
first_rows relations (Some s) = with_source relations s nothing_in_sight
