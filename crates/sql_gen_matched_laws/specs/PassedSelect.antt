-- The SELECT of a filter over the pairs of a LeftJoin (this project's own). Its joins with the terms read plain columns.
use Rattle.std.specs.Prelude.{ℕ, false, List, [], ◌∷◌, ◌++◌, map, Some, None}
use Rattle.sql_meaning.specs.declared.script.Item.{Item}
use Rattle.sql_meaning.specs.declared.script.Core.{Core}
use Rattle.sql_meaning.specs.declared.expression.SqlExpr.{SqlExpr}
use Rattle.sql_meaning.specs.declared.expression.SqlExpr.TheVariants as sql
use Rattle.sql_gen_step_laws.specs.Carried.{Name}
use Rattle.sql_gen_step_laws.specs.StepSelects.{left_alias, one_item, variable_item, own_sql}
use Rattle.sql_gen_term_laws.specs.TermTable.{own_test, term_joins}
use Rattle.sql_gen_optional_laws.specs.MatchRows.{kept}

-- what the left side binds stays as it is
abbrev pub still_item : ℕ → Item
still_item v = record { expr = sql.Name left_alias (kept v); name = kept v }

-- the pairs m of which the condition is true, over the terms of the variables ts: vs are the left side's, us those of both
abbrev pub passed_core : Name → Name → List ℕ → List ℕ → List ℕ → SqlExpr → Core
passed_core m terms vs us ts condition = record {
  distinct = false;
  items = one_item ∷ map (variable_item (own_sql us)) us ++ map still_item vs;
  from = Some (record { table = m; alias = left_alias });
  joins = term_joins terms (own_test us) ts;
  condition = Some condition;
  keys = [];
  most = None;
  skip = None;
}
