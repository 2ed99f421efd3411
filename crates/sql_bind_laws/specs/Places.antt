-- The place of each name of a script (this project's own): sources are numbered within their SELECT, columns within their source,
-- and relations through the whole script, tables before steps. A name that stands for nothing is a null.
use Rattle.std.specs.Prelude.{ℕ, suc, ◌+◌, if◌then◌else◌, List, [], ◌∷◌, ◌++◌, map, length, Option, Some, None, Ok, Err}
use Rattle.std.specs.Str.{bytes_eq}
use Rattle.table_meaning.specs.declared.schema.Column.{Column}
use Rattle.sql_meaning.specs.declared.expression.SqlExpr.{SqlExpr, fold-SqlExpr}
use Rattle.sql_meaning.specs.declared.expression.SqlExpr.TheOpen as o
use Rattle.sql_meaning.specs.declared.expression.SqlExpr.TheOpen.{SqlExpr-F}
use Rattle.sql_meaning.specs.declared.expression.Branch.{Branch, Branch-F, fold-Branch}
use Rattle.sql_meaning.specs.declared.script.Script.{Script}
use Rattle.sql_meaning.specs.declared.script.Step.{Step}
use Rattle.sql_meaning.specs.declared.script.Core.{Core}
use Rattle.sql_meaning.specs.declared.script.Item.{Item}
use Rattle.sql_meaning.specs.declared.script.Source.{Source}
use Rattle.sql_meaning.specs.declared.script.JoinTo.{JoinTo}
use Rattle.sql_meaning.specs.declared.script.SqlKey.{SqlKey}
use Rattle.sql_rows_meaning.specs.declared.fault.Fault.{Fault}
use Rattle.sql_rows_meaning.specs.declared.schema.NamedSchema.{NamedSchema}
use Rattle.sql_rows_meaning.specs.Faults.{Checked}
use Rattle.sql_rows_meaning.specs.Scopes.{Seen, nothing_seen, with_alias, schemas_of}
use Rattle.sql_rows_meaning.specs.Binding.{check_body}
use Rattle.sql_bind_meaning.specs.declared.expression.BoundExpr.{BoundExpr}
use Rattle.sql_bind_meaning.specs.declared.expression.BoundExpr.TheVariants as v
use Rattle.sql_bind_meaning.specs.declared.expression.BoundBranch.{BoundBranch}
use Rattle.sql_bind_meaning.specs.declared.script.BoundScript.{BoundScript}
use Rattle.sql_bind_meaning.specs.declared.script.BoundBody.{BoundBody}
use Rattle.sql_bind_meaning.specs.declared.script.BoundCore.{BoundCore}
use Rattle.sql_bind_meaning.specs.declared.script.BoundJoin.{BoundJoin}
use Rattle.sql_bind_meaning.specs.declared.script.BoundKey.{BoundKey}

-- ---- names in a SELECT

-- from an alias and a column's name to their place
abbrev pub Places : Type 0
Places = List ℕ → List ℕ → BoundExpr

-- the place of a column among those of a source, which are numbered from n on
abbrev pub column_place : ℕ → ℕ → List Column → List ℕ → BoundExpr
column_place source n [] name = v.Null
column_place source n (c ∷ columns) name = if bytes_eq c.name name then v.Cell source n else column_place source (suc n) columns name

-- the places that sources give, of which the last one stands first here: each is an alias and the columns under it
abbrev pub places_of : List NamedSchema → Places
places_of [] alias column = v.Null
places_of (s ∷ earlier) alias column = if bytes_eq alias s.name then column_place (length earlier) 0 s.schema column else places_of earlier alias column

-- what the binding sees of these sources
abbrev pub seen_of : List NamedSchema → Seen
seen_of [] = nothing_seen
seen_of (s ∷ earlier) = with_alias s.name s.schema (seen_of earlier)

-- ---- expressions

abbrev pub place_step : SqlExpr-F (Places → BoundExpr) (Places → BoundBranch) → Places → BoundExpr
place_step (o.Name alias column) places = places alias column
place_step (o.Int n) places = v.Int n
place_step (o.Text text) places = v.Text text
place_step (o.Truth b) places = v.Truth b
place_step (o.Null kind) places = v.Null
place_step (o.Equal a b) places = v.Equal (a places) (b places)
place_step (o.Less a b) places = v.Less (a places) (b places)
place_step (o.All es) places = v.All (map (λ e. e places) es)
place_step (o.Any es) places = v.Any (map (λ e. e places) es)
place_step (o.Not a) places = v.Not (a places)
place_step (o.IsNull a) places = v.IsNull (a places)
place_step (o.Case branches last) places = v.Case (map (λ b. b places) branches) (last places)
place_step (o.First es) places = v.First (map (λ e. e places) es)

abbrev pub place_branch_step : Branch-F (Places → BoundExpr) (Places → BoundBranch) → Places → BoundBranch
place_branch_step b places = record { test = b.test places; value = b.value places }

-- an expression with places for its names
abbrev pub place : SqlExpr → Places → BoundExpr
place = fold-SqlExpr (Places → BoundExpr) (Places → BoundBranch) place_step place_branch_step

abbrev pub place_branch : Branch → Places → BoundBranch
place_branch = fold-Branch (Places → BoundExpr) (Places → BoundBranch) place_step place_branch_step

-- ---- SELECTs

-- the number of a table or an earlier step; their count, where there is none
abbrev pub number_of : List NamedSchema → List ℕ → ℕ
number_of [] name = 0
number_of (t ∷ known) name = if bytes_eq name t.name then 0 else suc (number_of known name)

abbrev pub or_no_columns : Option (List Column) → List Column
or_no_columns None = []
or_no_columns (Some columns) = columns

-- a source's alias and the columns under it
abbrev pub source_in : List NamedSchema → Source → NamedSchema
source_in known s = record { name = s.alias; schema = or_no_columns (schemas_of known s.table) }

abbrev pub first_sources : List NamedSchema → Option Source → List NamedSchema
first_sources known None = []
first_sources known (Some s) = source_in known s ∷ []

-- the sources with those of joins
abbrev pub all_sources : List NamedSchema → List NamedSchema → List JoinTo → List NamedSchema
all_sources known sources [] = sources
all_sources known sources (j ∷ joins) = all_sources known (source_in known j.source ∷ sources) joins

abbrev pub place_from : List NamedSchema → Option Source → Option ℕ
place_from known None = None
place_from known (Some s) = Some (number_of known s.table)

abbrev pub place_joins : List NamedSchema → List NamedSchema → List JoinTo → List BoundJoin
place_joins known sources [] = []
place_joins known sources (j ∷ joins) =
    record { left = j.left; relation = number_of known j.source.table; on = place j.on (places_of (source_in known j.source ∷ sources)) }
    ∷ place_joins known (source_in known j.source ∷ sources) joins

abbrev pub place_items : Places → List Item → List BoundExpr
place_items places items = map (λ (i : Item). place i.expr places) items

abbrev pub place_condition : Places → Option SqlExpr → Option BoundExpr
place_condition places None = None
place_condition places (Some e) = Some (place e places)

abbrev pub place_keys : Places → List SqlKey → List BoundKey
place_keys places keys = map (λ (k : SqlKey). record { expr = place k.expr places; down = k.down }) keys

abbrev pub core_places : List NamedSchema → Core → Places
core_places known c = places_of (all_sources known (first_sources known c.from) c.joins)

abbrev pub place_core : List NamedSchema → Core → BoundCore
place_core known c = record {
  distinct = c.distinct;
  items = place_items (core_places known c) c.items;
  from = place_from known c.from;
  joins = place_joins known (first_sources known c.from) c.joins;
  condition = place_condition (core_places known c) c.condition;
  keys = place_keys (core_places known c) c.keys;
  most = c.most;
  skip = c.skip;
}

-- ---- bodies and steps; n is the number of the next SELECT

abbrev pub place_body : List NamedSchema → List Core → BoundBody
place_body known cores = record { cores = map (place_core known) cores }

-- the columns that were found, or none
abbrev pub columns_found : Checked Fault (List Column) → List Column
columns_found (Ok columns) = columns
columns_found (Err fault) = []

-- a step as one more relation
abbrev pub step_in : ℕ → List NamedSchema → Step → NamedSchema
step_in n known s = record { name = s.name; schema = columns_found (check_body (schemas_of known) n s.body.cores) }

abbrev pub place_steps : ℕ → List NamedSchema → List Step → List BoundBody
place_steps n known [] = []
place_steps n known (s ∷ steps) = place_body known s.body.cores ∷ place_steps (n + length s.body.cores) (known ++ step_in n known s ∷ []) steps

-- the tables, and the steps behind them
abbrev pub all_known : ℕ → List NamedSchema → List Step → List NamedSchema
all_known n known [] = known
all_known n known (s ∷ steps) = all_known (n + length s.body.cores) (known ++ step_in n known s ∷ []) steps

-- a script over tables with these schemas
abbrev pub place_script : Script → List NamedSchema → BoundScript
place_script s schemas = record { steps = place_steps 1 schemas s.steps; last = place_body (all_known 1 schemas s.steps) s.last.cores }
