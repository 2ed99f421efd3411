-- Steps of which each is shown from all that stand before it (this project's own): for steps whose tables carry no solutions yet.
use Rattle.std.specs.Prelude.{◌<◌, ◌≡◌, List, Ok, Some, false, length, map, true, ℕ}
use Rattle.layout_facts_meaning.specs.Facts.{HaveFacts}
use Rattle.layout_meaning.specs.Facts.{FactsOf, IdOf}
use Rattle.layout_standing_meaning.specs.Schemas.{LayoutOf}
use Rattle.rdf_meaning.specs.Terms.{RdfTriple}
use Rattle.sql_gen_chain_binding_laws.specs.StepsBind.{StepsBind}
use Rattle.sql_gen_chain_laws.specs.Chains.{SameBase}
use Rattle.sql_gen_form_laws.specs.Fits.{body_fits, step_fits}
use Rattle.sql_gen_numbered_meaning.specs.Namings.{KeepsApart, is_table}
use Rattle.sql_gen_numbered_meaning.specs.Numbered.{body_under, written}
use Rattle.sql_gen_numbered_meaning.specs.declared.numbered.NumberedBody.{NumberedBody}
use Rattle.sql_gen_out_laws.specs.Outs.{AreFree, HasTables}
use Rattle.sql_gen_step_laws.specs.Carried.{Name}
use Rattle.sql_meaning.specs.Scripts.{all_of, body_refs, is_primary, step_refs, total}
use Rattle.sql_meaning.specs.declared.script.Step.{Step}
use Rattle.sql_rows_meaning.specs.Binding.{check_body}
use Rattle.sql_rows_meaning.specs.Rows.{after_steps, body_relation}
use Rattle.sql_rows_meaning.specs.Scopes.{Schemas}
use Rattle.sql_rows_meaning.specs.Tables.{Relation, Relations, relations_of}
use Rattle.table_meaning.specs.Names.{is_name}
use Rattle.table_meaning.specs.Tables.{NamedTable}
use Rattle.table_meaning.specs.declared.schema.Column.{Column}

-- what is said of the table of each step, by its number
abbrev pub Saying : FactsOf → List IdOf → Type 1
Saying facts ids = ℕ → (layout : LayoutOf) (tables : List NamedTable) (g : List RdfTriple) → HaveFacts layout tables g ids facts → Relation → Type 0

pub record EachBinds (steps : List Step) (s : Schemas) (name : ℕ → Name) (n : ℕ) (columns : ℕ → List Column) : Type 0 where
  pub after : Schemas
  pub bind : StepsBind steps s after
  pub there : (i : ℕ) → i < n → after (name i) ≡ Some (columns i)

-- the table of each step has these columns, and of it this is said
pub record Made (facts : FactsOf) (ids : List IdOf) (bs : List NumberedBody) (columns : ℕ → List Column) (P : Saying facts ids) (refs : ℕ) : Type 0 where
  pub same_refs : (name : ℕ → Name) → KeepsApart (length bs) name → total (map step_refs (written name bs)) ≡ refs
  pub forms : (name : ℕ → Name) → KeepsApart (length bs) name → ((i : ℕ) → i < length bs → is_name (name i) ≡ true) → all_of step_fits (written name bs) ≡ true
  pub binds : (name : ℕ → Name) → KeepsApart (length bs) name → (s : Schemas) → HasTables facts s → AreFree name 0 (length bs) s → EachBinds (written name bs) s name (length bs) columns
  pub makes : (name : ℕ → Name) → KeepsApart (length bs) name → (layout : LayoutOf) (tables : List NamedTable) (g : List RdfTriple) → (d : HaveFacts layout tables g ids facts) →
      (t : Relations) → SameBase is_table (relations_of tables) t → (i : ℕ) → i < length bs → P i layout tables g d (after_steps (written name bs) t (name i))

-- what one step makes of the tables and of the steps before it, which are k
pub record Makes (facts : FactsOf) (ids : List IdOf) (k : ℕ) (b : NumberedBody) (columns : ℕ → List Column) (P : Saying facts ids) (refs : ℕ) : Type 0 where
  pub same_refs : (name : ℕ → Name) → ((i : ℕ) → i < k → is_primary (name i) ≡ false) → body_refs (body_under name b) ≡ refs
  pub forms : (name : ℕ → Name) → ((i : ℕ) → i < k → is_name (name i) ≡ true) → body_fits (body_under name b) ≡ true
  pub binds : (name : ℕ → Name) (t : Schemas) → HasTables facts t → ((i : ℕ) → i < k → t (name i) ≡ Some (columns i)) → (n : ℕ) → check_body t n (body_under name b).cores ≡ Ok (columns k)
  pub makes : (name : ℕ → Name) (layout : LayoutOf) (tables : List NamedTable) (g : List RdfTriple) → (d : HaveFacts layout tables g ids facts) → (t : Relations) → SameBase is_table (relations_of tables) t →
      ((i : ℕ) → i < k → P i layout tables g d (t (name i))) → P k layout tables g d (body_relation t (body_under name b))
