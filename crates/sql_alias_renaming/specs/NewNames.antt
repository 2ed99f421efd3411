-- New names of aliases by pairs (this project's own).
use Rattle.std.specs.Prelude.{◌≡◌, Bool, true, if◌then◌else◌, List, [], ◌∷◌}
use Rattle.std.specs.List.{list_any}
use Rattle.std.specs.Str.{bytes_eq}
use Rattle.table_meaning.specs.Names.{is_name}
use Rattle.table_meaning.specs.Tables.{NamedTable}
use Rattle.sql_meaning.specs.declared.expression.SqlExpr.{SqlExpr}
use Rattle.sql_meaning.specs.declared.script.Core.{Core}
use Rattle.sql_meaning.specs.declared.script.Body.{Body}
use Rattle.sql_meaning.specs.declared.script.Script.{Script}
use Rattle.sql_rows_meaning.specs.Rows.{script_rows}
use Rattle.sql_alias_meaning.specs.Nodes.{Node, an_expr, a_core, a_body, a_script, Made, of_expr, of_core, of_body, of_script}
use Rattle.sql_alias_laws.specs.Aliases.{Name, NewNames, realias, realias_core, realias_body, realias_script, aliases, core_aliases, body_aliases, script_aliases, AreToldApart}
use Rattle.sql_alias_renaming.specs.declared.names.AliasPair.{AliasPair}

-- the new name of an alias is that of the first pair that names it; an alias that no pair names stays
abbrev pub new_name : List AliasPair → NewNames
new_name [] a = a
new_name (p ∷ ps) a = if bytes_eq p.old a then p.new else new_name ps a

abbrev pub is_old_name : List AliasPair → Name → Bool
is_old_name pairs a = list_any (λ (p : AliasPair). bytes_eq p.old a) pairs

-- each of the aliases has a new name, which is a name of the dialect and no other alias's new name
pub record HaveNewNames (pairs : List AliasPair) (names : List Name) : Type 0 where
  pub paired : (a : Name) → list_any (bytes_eq a) names ≡ true → is_old_name pairs a ≡ true
  pub named : (a : Name) → list_any (bytes_eq a) names ≡ true → is_name (new_name pairs a) ≡ true
  pub told : AreToldApart (new_name pairs) names

abbrev pub node_aliases : Node → List Name
node_aliases (an_expr e) = aliases e
node_aliases (a_core c) = core_aliases c
node_aliases (a_body b) = body_aliases b
node_aliases (a_script s) = script_aliases s

-- a node that can be renamed: each of its aliases has a new name
abbrev pub CanBeRenamed : List AliasPair → Node → Type 0
CanBeRenamed pairs n = HaveNewNames pairs (node_aliases n)

-- a script is another one under new aliases, and has its rows over all tables
pub record IsSameScript (pairs : List AliasPair) (renamed script : Script) : Type 0 where
  pub under : renamed ≡ realias_script (new_name pairs) script
  pub rows : (tables : List NamedTable) → script_rows renamed tables ≡ script_rows script tables

abbrev pub IsRenamed : List AliasPair → Made SqlExpr Core Body Script → Type 0
IsRenamed pairs (of_expr x e) = x ≡ realias e (new_name pairs)
IsRenamed pairs (of_core x c) = x ≡ realias_core (new_name pairs) c
IsRenamed pairs (of_body x b) = x ≡ realias_body (new_name pairs) b
IsRenamed pairs (of_script x s) = IsSameScript pairs x s
