-- What an out of the compiler stands for (this project's own).
use Rattle.std.specs.Prelude.{◌+◌, ◌<◌, ◌≡◌, List, Some, false, is_some, length, map, true, ℕ}
use Rattle.std.specs.List.{AllByRecursion}
use Rattle.layout_facts_meaning.specs.Facts.{HaveFacts}
use Rattle.layout_meaning.specs.Facts.{FactsOf, IdOf}
use Rattle.layout_standing_meaning.specs.Dictionary.{has_term, id_of}
use Rattle.layout_standing_meaning.specs.Schemas.{LayoutOf}
use Rattle.query_eval_meaning.specs.Mapping.{Mapping, width}
use Rattle.query_eval_meaning.specs.Variables.{Binds, Variables, certain_of, variables_of}
use Rattle.query_meaning.specs.declared.tree.Tree.{Tree}
use Rattle.query_plan_meaning.specs.Stars.{plan_solutions, stars_certain, stars_variables}
use Rattle.query_plan_meaning.specs.declared.star.Star.{Star}
use Rattle.rdf_meaning.specs.Terms.{RdfTriple}
use Rattle.sql_gen_binding_laws.specs.StepColumns.{Once, step_schema}
use Rattle.sql_gen_chain_binding_laws.specs.StepsBind.{StepsBind}
use Rattle.sql_gen_chain_laws.specs.Chains.{Stands}
use Rattle.sql_gen_form_laws.specs.Fits.{step_fits}
use Rattle.sql_gen_meaning.specs.RightScripts.{five_schemas}
use Rattle.sql_gen_numbered_meaning.specs.Namings.{KeepsApart, is_table}
use Rattle.sql_gen_numbered_meaning.specs.Numbered.{written}
use Rattle.sql_gen_numbered_meaning.specs.declared.numbered.NumberedBody.{NumberedBody}
use Rattle.sql_gen_step_laws.specs.Carried.{Name}
use Rattle.sql_gen_step_laws.specs.StepSelects.{has}
use Rattle.sql_meaning.specs.Scripts.{all_of, step_refs, total}
use Rattle.sql_meaning.specs.declared.script.Step.{Step}
use Rattle.sql_rows_meaning.specs.Scopes.{Schemas, schemas_of}
use Rattle.sql_rows_meaning.specs.Tables.{relations_of}
use Rattle.table_meaning.specs.Names.{is_name}
use Rattle.table_meaning.specs.Tables.{NamedTable}
use Rattle.table_meaning.specs.declared.schema.Column.{Column}

-- the five tables with their columns, and perhaps others beside them
abbrev pub HasTables : FactsOf → Schemas → Type 0
HasTables facts s = (n : Name) → is_table n ≡ true → s n ≡ schemas_of (five_schemas facts) n

-- steps that bind, the last one with these columns
pub record BindsTo (steps : List Step) (s : Schemas) (last : Name) (columns : List Column) : Type 0 where
  pub after : Schemas
  pub bind : StepsBind steps s after
  pub there : after last ≡ Some columns

-- no step has one of the numbers from n on, below m
abbrev pub AreFree : (ℕ → Name) → ℕ → ℕ → Schemas → Type 0
AreFree name n m s = (i : ℕ) → i < m → is_some (s (name (n + i))) ≡ false

-- ---- outs

-- numbered steps, the number of the last one, its variables, and those that each of its rows binds
pub record Out : Type 0 where
  pub steps : List NumberedBody
  pub last : ℕ
  pub variables : List ℕ
  pub certain : Variables

abbrev pub count : Out → ℕ
count out = length out.steps

-- An out stands for solutions. What is said of names is said of every naming that keeps the out's numbers apart; what is said of
-- tables, of all that have the facts and ids.
pub record StandsOut (facts : FactsOf) (ids : List IdOf) (sols : List RdfTriple → List Mapping) (refs : ℕ) (out : Out) : Type 0 where
  pub last_there : out.last < count out
  pub once : Once out.variables
  pub in_width : AllByRecursion (λ v. v < width) out.variables
  pub bound : (g : List RdfTriple) → AllByRecursion (Binds out.certain) (sols g)
  pub same_refs : (name : ℕ → Name) → KeepsApart (count out) name → total (map step_refs (written name out.steps)) ≡ refs
  pub forms : (name : ℕ → Name) → KeepsApart (count out) name → ((i : ℕ) → i < count out → is_name (name i) ≡ true) → all_of step_fits (written name out.steps) ≡ true
  pub binds : (name : ℕ → Name) → KeepsApart (count out) name → (s : Schemas) → HasTables facts s → AreFree name 0 (count out) s → BindsTo (written name out.steps) s (name out.last) (step_schema out.variables)
  pub stands : (name : ℕ → Name) → KeepsApart (count out) name → (layout : LayoutOf) (tables : List NamedTable) (g : List RdfTriple) → (t : HaveFacts layout tables g ids facts) →
      Stands is_table (relations_of tables) (id_of t.contents.terms) (has_term t.contents.terms) out.variables (sols g) (written name out.steps) (name out.last)

-- an out stands for a node of a plan: for its solutions, with exactly its variables and exactly those that are certain
pub record StandsForNode (facts : FactsOf) (ids : List IdOf) (node : Tree (List Star)) (refs : ℕ) (out : Out) : Type 0 where
  pub solutions : StandsOut facts ids (plan_solutions node) refs out
  pub variables : (v : ℕ) → has out.variables v ≡ variables_of stars_variables node v
  pub certain : (v : ℕ) → out.certain v ≡ certain_of stars_certain node v
