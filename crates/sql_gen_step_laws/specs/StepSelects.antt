-- The SELECTs that the compiler makes.
use Rattle.std.specs.Prelude.{ℕ, Bool, true, false, if◌then◌else◌, ◌==◌, List, [], ◌∷◌, ◌++◌, map, Some, None, pos}
use Rattle.std.specs.List.{list_any, filter}
use Rattle.sql_meaning.specs.declared.script.Item.{Item}
use Rattle.sql_meaning.specs.declared.script.Core.{Core}
use Rattle.sql_meaning.specs.declared.script.Body.{Body}
use Rattle.sql_meaning.specs.declared.expression.SqlExpr.{SqlExpr}
use Rattle.sql_gen_step_laws.specs.Carried.{Name, column, one}
use Rattle.sql_meaning.specs.declared.expression.SqlExpr.TheVariants as sql
use Rattle.table_meaning.specs.declared.kind.Kind.TheVariants as kind

abbrev pub left_alias : Name
left_alias = 97 ∷ []

abbrev pub right_alias : Name
right_alias = 98 ∷ []

abbrev pub cell_of : Name → ℕ → SqlExpr
cell_of alias v = sql.Name alias (column v)

-- AND of any number of parts
abbrev pub every : List SqlExpr → SqlExpr
every [] = sql.Truth true
every (e ∷ []) = e
every (e ∷ f ∷ es) = sql.All (e ∷ f ∷ es)

abbrev pub has : List ℕ → ℕ → Bool
has vs v = list_any (λ w. w == v) vs

-- equal, or unbound on a side
abbrev pub agree_sql : ℕ → SqlExpr
agree_sql v = sql.Any (sql.Equal (cell_of left_alias v) (cell_of right_alias v) ∷ sql.IsNull (cell_of left_alias v) ∷ sql.IsNull (cell_of right_alias v) ∷ [])

abbrev pub equal_sql : ℕ → SqlExpr
equal_sql v = sql.Equal (cell_of left_alias v) (cell_of right_alias v)

-- certain variables are joined by plain equality
abbrev pub shared_sql : List ℕ → ℕ → SqlExpr
shared_sql certain v = if has certain v then equal_sql v else agree_sql v

abbrev pub shared : List ℕ → List ℕ → List ℕ
shared vs ws = filter (has vs) ws

abbrev pub merged_sql : List ℕ → List ℕ → ℕ → SqlExpr
merged_sql vs ws v =
    if has vs v then (if has ws v then sql.First (cell_of left_alias v ∷ cell_of right_alias v ∷ []) else cell_of left_alias v)
    else cell_of right_alias v

abbrev pub one_item : Item
one_item = record { expr = sql.Int (pos 1); name = one }

abbrev pub variable_item : (ℕ → SqlExpr) → ℕ → Item
variable_item f v = record { expr = f v; name = column v }

-- all variables of both sides
abbrev pub both : List ℕ → List ℕ → List ℕ
both vs ws = vs ++ filter (λ w. if has vs w then false else true) ws

abbrev pub join_core : Bool → Name → Name → List ℕ → List ℕ → List ℕ → Core
join_core left a b vs ws certain = record {
  distinct = false;
  items = one_item ∷ map (variable_item (merged_sql vs ws)) (both vs ws);
  from = Some (record { table = a; alias = left_alias });
  joins = record { left = left; source = record { table = b; alias = right_alias }; on = every (map (shared_sql certain) (shared vs ws)) } ∷ [];
  condition = None;
  keys = [];
  most = None;
  skip = None;
}

-- the cell of a variable, or null where the row has none
abbrev pub own_sql : List ℕ → ℕ → SqlExpr
own_sql vs v = if has vs v then cell_of left_alias v else sql.Null kind.Int

-- the rows of one step, with the columns of the variables us
abbrev pub project_core : Name → List ℕ → List ℕ → Core
project_core a vs us = record {
  distinct = false;
  items = one_item ∷ map (variable_item (own_sql vs)) us;
  from = Some (record { table = a; alias = left_alias });
  joins = [];
  condition = None;
  keys = [];
  most = None;
  skip = None;
}

abbrev pub union_body : Name → Name → List ℕ → List ℕ → Body
union_body a b vs ws = record { cores = project_core a vs (both vs ws) ∷ project_core b ws (both vs ws) ∷ [] }
