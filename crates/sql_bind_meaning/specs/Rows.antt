-- The rows of a script whose names are places (this project's own): UNION ALL appends, and each step is one more relation.
use Rattle.std.specs.Prelude.{List, [], ◌∷◌, ◌++◌, map}
use Rattle.std.specs.List.{flat_map}
use Rattle.table_meaning.specs.declared.cell.Cell.{Cell}
use Rattle.table_meaning.specs.Tables.{NamedTable}
use Rattle.sql_bind_meaning.specs.declared.script.BoundBody.{BoundBody}
use Rattle.sql_bind_meaning.specs.declared.script.BoundScript.{BoundScript}
use Rattle.sql_bind_meaning.specs.Selects.{bound_select_rows}

-- the given tables by their numbers
abbrev pub table_relations : List NamedTable → List (List (List Cell))
table_relations tables = map (λ (t : NamedTable). t.rows) tables

abbrev pub bound_body_rows : List (List (List Cell)) → BoundBody → List (List Cell)
bound_body_rows relations b = flat_map (bound_select_rows relations) b.cores

-- the relations with those of the steps behind them
abbrev pub after_bound_steps : List BoundBody → List (List (List Cell)) → List (List (List Cell))
after_bound_steps [] relations = relations
after_bound_steps (s ∷ steps) relations = after_bound_steps steps (relations ++ bound_body_rows relations s ∷ [])

-- the rows of the last body
abbrev pub bound_rows : BoundScript → List NamedTable → List (List Cell)
bound_rows s tables = bound_body_rows (after_bound_steps s.steps (table_relations tables)) s.last
