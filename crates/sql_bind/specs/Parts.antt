-- The parts of the check of one SELECT, and of the steps of a script.
use Rattle.std.specs.Prelude.{◌≡◌, ℕ, ◌++◌, List, [], ◌∷◌, Ok, Err}
use Rattle.table_meaning.specs.declared.schema.Column.{Column}
use Rattle.sql_meaning.specs.declared.script.Core.{Core}
use Rattle.sql_meaning.specs.declared.script.Source.{Source}
use Rattle.sql_meaning.specs.declared.script.Step.{Step}
use Rattle.sql_rows_meaning.specs.declared.fault.Fault.{Fault}
use Rattle.sql_rows_meaning.specs.declared.fault.FaultKind.{FaultKind}
use Rattle.sql_rows_meaning.specs.declared.schema.NamedSchema.{NamedSchema}
use Rattle.sql_rows_meaning.specs.Faults.{Checked, and_then}
use Rattle.sql_rows_meaning.specs.Scopes.{Scope, Schemas, schemas_of, Seen}
use Rattle.sql_rows_meaning.specs.Checks.{KindChecked}
use Rattle.sql_rows_meaning.specs.Binding.{check_source, check_from, check_joins, check_items, check_where, check_keys, check_body, check_steps}
use Rattle.sql_bind_meaning.specs.declared.script.BoundBody.{BoundBody}
use Rattle.sql_bind_laws.specs.Places.{seen_of, source_in, place_steps, all_known}

-- the sources, each with its ON
abbrev pub check_sources : Schemas → Core → Checked FaultKind Seen
check_sources schemas c = and_then (check_from schemas c.from) (check_joins schemas c.joins)

-- the sources and the items
abbrev pub check_front : Schemas → Core → Checked FaultKind (List Column)
check_front schemas c = and_then (check_sources schemas c) (λ seen. check_items seen.scope [] c.items)

-- WHERE and the keys
abbrev pub check_rest : Scope → Core → KindChecked
check_rest scope c = and_then (check_where scope c.condition) (λ _. check_keys scope c.keys)

-- a source of the text is added to those before it: it stands first
pub record IsAdded (known : List NamedSchema) (s : Source) (before after : List NamedSchema) : Type 0 where
  pub checked : check_source (schemas_of known) s (seen_of before) ≡ Ok (seen_of after)
  pub source : after ≡ source_in known s ∷ before

-- the steps over tables with these schemas are bound up to the rest: these are the relations so far and the bodies with
-- places, and n is the number of the next SELECT
pub record AreBoundUpTo (schemas : List NamedSchema) (steps : List Step) (known : List NamedSchema) (n : ℕ) (bodies : List BoundBody) (rest : List Step) : Type 0 where
  pub fine : (last : List Core) → check_steps 1 (schemas_of schemas) steps last ≡ check_steps n (schemas_of known) rest last
  pub placed : place_steps 1 schemas steps ≡ bodies ++ place_steps n known rest
  pub relations : all_known 1 schemas steps ≡ all_known n known rest

-- all are bound
pub record AreBound (schemas : List NamedSchema) (steps : List Step) (known : List NamedSchema) (n : ℕ) (bodies : List BoundBody) : Type 0 where
  pub fine : (last : List Core) → check_steps 1 (schemas_of schemas) steps last ≡ check_body (schemas_of known) n last
  pub placed : bodies ≡ place_steps 1 schemas steps
  pub relations : known ≡ all_known 1 schemas steps

-- the first fault of a script stands in its steps
pub record HaveFault (schemas : List NamedSchema) (steps : List Step) (f : Fault) : Type 0 where
  pub first : (last : List Core) → check_steps 1 (schemas_of schemas) steps last ≡ Err f
