-- The rows of a script (this project's own): UNION ALL appends, and each step sees the tables and the steps before it.
use Rattle.std.specs.Prelude.{ℕ, List, [], ◌∷◌, map}
use Rattle.std.specs.List.{flat_map}
use Rattle.table_meaning.specs.declared.cell.Cell.{Cell}
use Rattle.table_meaning.specs.Tables.{NamedTable}
use Rattle.sql_meaning.specs.declared.script.Item.{Item}
use Rattle.sql_meaning.specs.declared.script.Core.{Core}
use Rattle.sql_meaning.specs.declared.script.Body.{Body}
use Rattle.sql_meaning.specs.declared.script.Step.{Step}
use Rattle.sql_meaning.specs.declared.script.Script.{Script}
use Rattle.sql_rows_meaning.specs.Tables.{Relation, Relations, with_relation, relations_of}
use Rattle.sql_rows_meaning.specs.Selects.{select_rows}

-- the names of a body's columns are those of its first SELECT
abbrev pub body_names : List Core → List (List ℕ)
body_names [] = []
body_names (c ∷ cores) = map (λ (i : Item). i.name) c.items

abbrev pub body_rows : Relations → Body → List (List Cell)
body_rows relations b = flat_map (select_rows relations) b.cores

abbrev pub body_relation : Relations → Body → Relation
body_relation relations b = record { columns = body_names b.cores; rows = body_rows relations b }

abbrev pub after_steps : List Step → Relations → Relations
after_steps [] relations = relations
after_steps (s ∷ steps) relations = after_steps steps (with_relation s.name (body_relation relations s.body) relations)

-- the rows of the last body
abbrev pub script_rows : Script → List NamedTable → List (List Cell)
script_rows s tables = body_rows (after_steps s.steps (relations_of tables)) s.last
