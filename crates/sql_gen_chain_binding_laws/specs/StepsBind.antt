-- Steps that bind, whatever the numbers of their SELECTs.
use Rattle.std.specs.Prelude.{◌≡◌, ℕ, false, List, [], ◌∷◌, Ok, is_some}
use Rattle.table_meaning.specs.declared.schema.Column.{Column}
use Rattle.sql_meaning.specs.declared.script.Step.{Step}
use Rattle.sql_rows_meaning.specs.Scopes.{Schemas, with_schema}
use Rattle.sql_rows_meaning.specs.Binding.{check_body}

-- one step after another binds: its name is new, and its body has these columns
pub data StepsBind : List Step → Schemas → Schemas → Type 0 where
  no_step : (t : Schemas) → StepsBind [] t t
  one_step : (s : Step) (steps : List Step) (t u : Schemas) (columns : List Column) → is_some (t s.name) ≡ false → ((n : ℕ) → check_body t n s.body.cores ≡ Ok columns) → StepsBind steps (with_schema s.name columns t) u → StepsBind (s ∷ steps) t u
