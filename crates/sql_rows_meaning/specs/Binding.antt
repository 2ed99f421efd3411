-- The binding of a script (this project's own): the columns of its rows, or its first fault. In each SELECT the sources are
-- walked, each with its ON, then the items, then WHERE and the keys.
use Rattle.std.specs.Prelude.{ℕ, ◌+◌, Bool, true, false, ◌&&◌, if◌then◌else◌, List, [], ◌∷◌, length, Option, Some, None, is_some, Ok, Err}
use Rattle.std.specs.List.{list_any}
use Rattle.std.specs.Str.{bytes_eq}
use Rattle.table_meaning.specs.declared.kind.Kind.TheVariants as kind
use Rattle.table_meaning.specs.declared.schema.Column.{Column}
use Rattle.sql_meaning.specs.declared.expression.SqlExpr.{SqlExpr}
use Rattle.sql_meaning.specs.declared.script.Script.{Script}
use Rattle.sql_meaning.specs.declared.script.Step.{Step}
use Rattle.sql_meaning.specs.declared.script.Core.{Core}
use Rattle.sql_meaning.specs.declared.script.Item.{Item}
use Rattle.sql_meaning.specs.declared.script.Source.{Source}
use Rattle.sql_meaning.specs.declared.script.JoinTo.{JoinTo}
use Rattle.sql_meaning.specs.declared.script.SqlKey.{SqlKey}
use Rattle.sql_rows_meaning.specs.declared.fault.FaultKind.{FaultKind}
use Rattle.sql_rows_meaning.specs.declared.fault.FaultKind.TheVariants.{NoTable, Twice, KindClash}
use Rattle.sql_rows_meaning.specs.declared.fault.Fault.{Fault}
use Rattle.sql_rows_meaning.specs.Faults.{Checked, and_then, unless, found, in_select}
use Rattle.sql_rows_meaning.specs.declared.schema.NamedSchema.{NamedSchema}
use Rattle.sql_rows_meaning.specs.Scopes.{Scope, Schemas, with_schema, schemas_of, Seen, nothing_seen, with_alias}
use Rattle.sql_rows_meaning.specs.Checks.{KindChecked, same_kind, check, check_truth}

-- ---- one SELECT

-- a table or an earlier step, under a new alias
abbrev pub check_source : Schemas → Source → Seen → Checked FaultKind Seen
check_source schemas s seen =
    and_then (found NoTable (schemas s.table)) (λ schema. unless (list_any (bytes_eq s.alias) seen.aliases) Twice (with_alias s.alias schema seen))

abbrev pub check_from : Schemas → Option Source → Checked FaultKind Seen
check_from schemas None = Ok nothing_seen
check_from schemas (Some s) = check_source schemas s nothing_seen

abbrev pub check_join : Schemas → JoinTo → Seen → Checked FaultKind Seen
check_join schemas j seen = and_then (check_source schemas j.source seen) (λ more. and_then (check_truth j.on more.scope) (λ k. Ok more))

abbrev pub check_joins : Schemas → List JoinTo → Seen → Checked FaultKind Seen
check_joins schemas [] seen = Ok seen
check_joins schemas (j ∷ joins) seen = and_then (check_join schemas j seen) (check_joins schemas joins)

-- an item's expression goes before its name, which none of these names is
abbrev pub check_items : Scope → List (List ℕ) → List Item → Checked FaultKind (List Column)
check_items scope names [] = Ok []
check_items scope names (i ∷ items) =
    and_then (check i.expr scope) (λ k. and_then (unless (list_any (bytes_eq i.name) names) Twice k)
    (λ k. and_then (check_items scope (i.name ∷ names) items) (λ columns. Ok (record { name = i.name; kind = k } ∷ columns))))

abbrev pub check_where : Scope → Option SqlExpr → KindChecked
check_where scope None = Ok kind.Truth
check_where scope (Some e) = check_truth e scope

abbrev pub check_keys : Scope → List SqlKey → KindChecked
check_keys scope [] = Ok kind.Truth
check_keys scope (k ∷ keys) = and_then (check k.expr scope) (λ _. check_keys scope keys)

abbrev pub same_columns : List Column → List Column → Bool
same_columns [] [] = true
same_columns [] (d ∷ ds) = false
same_columns (c ∷ cs) [] = false
same_columns (c ∷ cs) (d ∷ ds) = bytes_eq c.name d.name && (same_kind c.kind d.kind && same_columns cs ds)

-- the first SELECT of a body, or one whose columns are like those of the first
abbrev pub check_like : Option (List Column) → List Column → Checked FaultKind (List Column)
check_like None columns = Ok columns
check_like (Some first) columns = if same_columns first columns then Ok columns else Err KindClash

abbrev pub check_select : Schemas → Option (List Column) → Core → Checked FaultKind (List Column)
check_select schemas first c =
    and_then (check_from schemas c.from) (λ start.
    and_then (check_joins schemas c.joins start) (λ seen.
    and_then (check_items seen.scope [] c.items) (λ columns.
    and_then (check_like first columns) (λ columns.
    and_then (check_where seen.scope c.condition) (λ _.
    and_then (check_keys seen.scope c.keys) (λ _. Ok columns))))))

-- ---- bodies and steps; n is the number of the next SELECT

abbrev pub check_others : Schemas → ℕ → List Column → List Core → Checked Fault (List Column)
check_others schemas n first [] = Ok first
check_others schemas n first (c ∷ cores) = and_then (in_select n (check_select schemas (Some first) c)) (λ _. check_others schemas (n + 1) first cores)

abbrev pub check_body : Schemas → ℕ → List Core → Checked Fault (List Column)
check_body schemas n [] = Ok []
check_body schemas n (c ∷ cores) = and_then (in_select n (check_select schemas None c)) (λ first. check_others schemas (n + 1) first cores)

-- a step's name is no table's and no earlier step's; that goes before its body
abbrev pub check_step_body : Schemas → ℕ → Step → Checked Fault (List Column)
check_step_body schemas n s = and_then (in_select n (unless (is_some (schemas s.name)) Twice s)) (λ s. check_body schemas n s.body.cores)

-- the steps, and then the last body
abbrev pub check_steps : ℕ → Schemas → List Step → List Core → Checked Fault (List Column)
check_steps n schemas [] last = check_body schemas n last
check_steps n schemas (s ∷ steps) last =
    and_then (check_step_body schemas n s) (λ columns. check_steps (n + length s.body.cores) (with_schema s.name columns schemas) steps last)

-- the columns of the script's rows over tables with these schemas, or the first fault
abbrev pub check_script : Script → List NamedSchema → Checked Fault (List Column)
check_script s schemas = check_steps 1 (schemas_of schemas) s.steps s.last.cores
