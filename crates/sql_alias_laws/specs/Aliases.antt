-- Aliases renamed (this project's own): a script under other aliases, and which new names do.
use Rattle.std.specs.Prelude.{◌≡◌, ℕ, true, List, [], ◌∷◌, ◌++◌, map, Option, Some, None}
use Rattle.std.specs.List.{flat_map, list_any}
use Rattle.std.specs.Str.{bytes_eq}
use Rattle.sql_meaning.specs.declared.expression.SqlExpr.{SqlExpr, fold-SqlExpr}
use Rattle.sql_meaning.specs.declared.expression.SqlExpr.TheOpen as o
use Rattle.sql_meaning.specs.declared.expression.SqlExpr.TheOpen.{SqlExpr-F}
use Rattle.sql_meaning.specs.declared.expression.SqlExpr.TheVariants as v
use Rattle.sql_meaning.specs.declared.expression.Branch.{Branch, Branch-F, fold-Branch}
use Rattle.sql_meaning.specs.declared.script.Script.{Script}
use Rattle.sql_meaning.specs.declared.script.Step.{Step}
use Rattle.sql_meaning.specs.declared.script.Body.{Body}
use Rattle.sql_meaning.specs.declared.script.Core.{Core}
use Rattle.sql_meaning.specs.declared.script.Item.{Item}
use Rattle.sql_meaning.specs.declared.script.Source.{Source}
use Rattle.sql_meaning.specs.declared.script.JoinTo.{JoinTo}
use Rattle.sql_meaning.specs.declared.script.SqlKey.{SqlKey}

abbrev pub Name : Type 0
Name = List ℕ

abbrev pub NewNames : Type 0
NewNames = Name → Name

-- ---- the same under other aliases

abbrev pub alias_step : SqlExpr-F (NewNames → SqlExpr) (NewNames → Branch) → NewNames → SqlExpr
alias_step (o.Name a c) f = v.Name (f a) c
alias_step (o.Int n) f = v.Int n
alias_step (o.Text t) f = v.Text t
alias_step (o.Truth b) f = v.Truth b
alias_step (o.Null k) f = v.Null k
alias_step (o.Equal a b) f = v.Equal (a f) (b f)
alias_step (o.Less a b) f = v.Less (a f) (b f)
alias_step (o.All es) f = v.All (map (λ e. e f) es)
alias_step (o.Any es) f = v.Any (map (λ e. e f) es)
alias_step (o.Not a) f = v.Not (a f)
alias_step (o.IsNull a) f = v.IsNull (a f)
alias_step (o.Case bs last) f = v.Case (map (λ b. b f) bs) (last f)
alias_step (o.First es) f = v.First (map (λ e. e f) es)

abbrev pub alias_branch_step : Branch-F (NewNames → SqlExpr) (NewNames → Branch) → NewNames → Branch
alias_branch_step b f = record { test = b.test f; value = b.value f }

abbrev pub realias : SqlExpr → NewNames → SqlExpr
realias = fold-SqlExpr (NewNames → SqlExpr) (NewNames → Branch) alias_step alias_branch_step

abbrev pub realias_branch : Branch → NewNames → Branch
realias_branch = fold-Branch (NewNames → SqlExpr) (NewNames → Branch) alias_step alias_branch_step

abbrev pub realias_source : NewNames → Source → Source
realias_source f s = record { table = s.table; alias = f s.alias }

abbrev pub realias_from : NewNames → Option Source → Option Source
realias_from f None = None
realias_from f (Some s) = Some (realias_source f s)

abbrev pub realias_join : NewNames → JoinTo → JoinTo
realias_join f j = record { left = j.left; source = realias_source f j.source; on = realias j.on f }

abbrev pub realias_condition : NewNames → Option SqlExpr → Option SqlExpr
realias_condition f None = None
realias_condition f (Some e) = Some (realias e f)

abbrev pub realias_item : NewNames → Item → Item
realias_item f i = record { expr = realias i.expr f; name = i.name }

abbrev pub realias_key : NewNames → SqlKey → SqlKey
realias_key f k = record { expr = realias k.expr f; down = k.down }

abbrev pub realias_core : NewNames → Core → Core
realias_core f c = record {
  distinct = c.distinct;
  items = map (realias_item f) c.items;
  from = realias_from f c.from;
  joins = map (realias_join f) c.joins;
  condition = realias_condition f c.condition;
  keys = map (realias_key f) c.keys;
  most = c.most;
  skip = c.skip;
}

abbrev pub realias_body : NewNames → Body → Body
realias_body f b = record { cores = map (realias_core f) b.cores }

abbrev pub realias_step : NewNames → Step → Step
realias_step f s = record { name = s.name; body = realias_body f s.body }

abbrev pub realias_script : NewNames → Script → Script
realias_script f s = record { steps = map (realias_step f) s.steps; last = realias_body f s.last }

-- ---- the aliases of a node

abbrev pub aliases_step : SqlExpr-F (List Name) (List Name) → List Name
aliases_step (o.Name a c) = a ∷ []
aliases_step (o.Int n) = []
aliases_step (o.Text t) = []
aliases_step (o.Truth b) = []
aliases_step (o.Null k) = []
aliases_step (o.Equal a b) = a ++ b
aliases_step (o.Less a b) = a ++ b
aliases_step (o.All es) = flat_map (λ e. e) es
aliases_step (o.Any es) = flat_map (λ e. e) es
aliases_step (o.Not a) = a
aliases_step (o.IsNull a) = a
aliases_step (o.Case bs last) = flat_map (λ b. b) bs ++ last
aliases_step (o.First es) = flat_map (λ e. e) es

abbrev pub branch_aliases_step : Branch-F (List Name) (List Name) → List Name
branch_aliases_step b = b.test ++ b.value

abbrev pub aliases : SqlExpr → List Name
aliases = fold-SqlExpr (List Name) (List Name) aliases_step branch_aliases_step

abbrev pub from_aliases : Option Source → List Name
from_aliases None = []
from_aliases (Some s) = s.alias ∷ []

abbrev pub condition_aliases : Option SqlExpr → List Name
condition_aliases None = []
condition_aliases (Some e) = aliases e

abbrev pub join_aliases : JoinTo → List Name
join_aliases j = j.source.alias ∷ aliases j.on

abbrev pub core_aliases : Core → List Name
core_aliases c =
    flat_map (λ (i : Item). aliases i.expr) c.items
    ++ (from_aliases c.from ++ (flat_map join_aliases c.joins ++ (condition_aliases c.condition ++ flat_map (λ (k : SqlKey). aliases k.expr) c.keys)))

abbrev pub body_aliases : Body → List Name
body_aliases b = flat_map core_aliases b.cores

abbrev pub script_aliases : Script → List Name
script_aliases s = flat_map (λ (t : Step). body_aliases t.body) s.steps ++ body_aliases s.last

-- new names differ where the aliases do
pub record AreToldApart (f : NewNames) (names : List Name) : Type 0 where
  pub apart : (a b : Name) → list_any (bytes_eq a) names ≡ true → list_any (bytes_eq b) names ≡ true → bytes_eq (f a) (f b) ≡ bytes_eq a b
