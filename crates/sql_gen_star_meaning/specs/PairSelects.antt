-- The SELECTs of pairs, for a predicate that is a variable: one for each pair of columns (this project's own).
use Rattle.std.specs.Prelude.{ℕ, zero, suc, false, if◌then◌else◌, ◌==◌, List, [], ◌∷◌, ◌++◌, map, Some, None}
use Rattle.sql_meaning.specs.declared.script.Core.{Core}
use Rattle.sql_meaning.specs.declared.script.Body.{Body}
use Rattle.sql_meaning.specs.declared.expression.SqlExpr.{SqlExpr}
use Rattle.sql_meaning.specs.declared.expression.SqlExpr.TheVariants as sql
use Rattle.sql_gen_step_laws.specs.Carried.{Name}
use Rattle.sql_gen_step_laws.specs.StepSelects.{one_item, variable_item}
use Rattle.sql_gen_star_meaning.specs.declared.arm.Asked.{Asked}
use Rattle.sql_gen_star_meaning.specs.declared.arm.Asked.TheVariants.{Constant, Again, New, Maybe}
use Rattle.sql_gen_star_meaning.specs.Asked.{asked_vars}
use Rattle.sql_gen_star_meaning.specs.SideTables.{pred_name, val_name}
use Rattle.sql_gen_star_meaning.specs.StarSelects.{star_alias, where_every, entry_sql, entity_tests, cell_item}

-- the predicate and the value in a column
abbrev pub pred_sql : ℕ → SqlExpr
pred_sql c = sql.Name star_alias (pred_name c)

abbrev pub val_sql : ℕ → ℕ → SqlExpr
val_sql c i = sql.Name star_alias (val_name c)

-- the pair is there; where the predicate's variable is the entity's, they are equal
abbrev pub pred_tests : ℕ → Asked → List SqlExpr
pred_tests c (Constant n) = []
pred_tests c (Again v) = sql.Equal (pred_sql c) entry_sql ∷ []
pred_tests c (New v) = sql.Not (sql.IsNull (pred_sql c)) ∷ []
pred_tests c (Maybe v) = []

-- a variable's column: the predicate's, or the entity's
abbrev pub pair_sql : ℕ → Asked → ℕ → SqlExpr
pair_sql c (Constant n) v = entry_sql
pair_sql c (Again w) v = entry_sql
pair_sql c (New w) v = if v == w then pred_sql c else entry_sql
pair_sql c (Maybe w) v = entry_sql

-- the pairs in one column; the cell is that of the arm 0
abbrev pub pair_core : Name → Asked → Asked → ℕ → Core
pair_core primary entity predicate c = record {
  distinct = false;
  items = one_item ∷ (map (variable_item (pair_sql c predicate)) (asked_vars predicate (asked_vars entity [])) ++ map (cell_item (val_sql c)) (0 ∷ []));
  from = Some (record { table = primary; alias = star_alias });
  joins = [];
  condition = where_every (entity_tests entity ++ pred_tests c predicate);
  keys = [];
  most = None;
  skip = None;
}

-- n SELECTs, from the column c on
abbrev pub pair_cores : Name → Asked → Asked → ℕ → ℕ → List Core
pair_cores primary entity predicate zero c = []
pair_cores primary entity predicate (suc n) c = pair_core primary entity predicate c ∷ pair_cores primary entity predicate n (suc c)

-- the SELECTs of all k columns
abbrev pub pairs_body : Name → Asked → Asked → ℕ → Body
pairs_body primary entity predicate k = record { cores = pair_cores primary entity predicate k 0 }
