-- The rows that are picked from sources with numbers (this project's own): one left row at a time, with each right row in order.
use Rattle.std.specs.Prelude.{ℕ, if◌then◌else◌, List, [], ◌∷◌, ◌++◌, map, slice_get, unwrap_or, Option, Some, None}
use Rattle.std.specs.List.{flat_map, filter}
use Rattle.table_meaning.specs.declared.cell.Cell.{Cell}
use Rattle.sql_rows_meaning.specs.Values.{is_true}
use Rattle.sql_bind_meaning.specs.declared.expression.BoundExpr.{BoundExpr}
use Rattle.sql_bind_meaning.specs.declared.script.BoundJoin.{BoundJoin}
use Rattle.sql_bind_meaning.specs.Values.{Picked, bound_value}

-- the rows of a relation; none where there is no such relation
abbrev pub relation_rows : List (List (List Cell)) → ℕ → List (List Cell)
relation_rows relations number = unwrap_or (slice_get relations number) []

-- one more picked row
abbrev pub with_picked : Picked → List Cell → Picked
with_picked picked row = picked ++ row ∷ []

-- each row of a relation beside what is picked
abbrev pub with_each : List (List Cell) → Picked → List Picked
with_each rows picked = map (with_picked picked) rows

-- those of which the condition is true
abbrev pub bound_where_true : BoundExpr → List Picked → List Picked
bound_where_true e all = filter (λ picked. is_true (bound_value e picked)) all

-- the row without cells in the place of a row, where none was found
abbrev pub or_empty : Picked → List Picked → List Picked
or_empty picked [] = with_picked picked [] ∷ []
or_empty picked (found ∷ others) = found ∷ others

-- JOIN keeps the rows for which the condition is true; LEFT JOIN keeps a left row without such a row once
abbrev pub bound_joined_to : List (List (List Cell)) → BoundJoin → Picked → List Picked
bound_joined_to relations j picked =
    if j.left then or_empty picked (bound_where_true j.on (with_each (relation_rows relations j.relation) picked))
    else bound_where_true j.on (with_each (relation_rows relations j.relation) picked)

abbrev pub bound_all_joined : List (List (List Cell)) → List BoundJoin → List Picked → List Picked
bound_all_joined relations [] all = all
bound_all_joined relations (j ∷ joins) all = bound_all_joined relations joins (flat_map (bound_joined_to relations j) all)

-- a SELECT without FROM has one row
abbrev pub bound_first_rows : List (List (List Cell)) → Option ℕ → List Picked
bound_first_rows relations None = [] ∷ []
bound_first_rows relations (Some number) = with_each (relation_rows relations number) []
