-- The SELECTs of access and open (this project's own).
use Rattle.std.specs.Prelude.{ℕ, Bool, true, false, if◌then◌else◌, ◌==◌, List, [], ◌∷◌, ◌++◌, map, Option, Some, None, pos}
use Rattle.table_meaning.specs.declared.kind.Kind.TheVariants as kind
use Rattle.sql_meaning.specs.declared.script.Item.{Item}
use Rattle.sql_meaning.specs.declared.script.Core.{Core}
use Rattle.sql_meaning.specs.declared.expression.Branch.{Branch}
use Rattle.sql_meaning.specs.declared.expression.SqlExpr.{SqlExpr}
use Rattle.sql_meaning.specs.declared.expression.SqlExpr.TheVariants as sql
use Rattle.sql_gen_step_laws.specs.Carried.{Name}
use Rattle.sql_gen_step_laws.specs.StepSelects.{left_alias, cell_of, every, one_item, variable_item}
use Rattle.sql_gen_star_meaning.specs.declared.arm.Asked.{Asked}
use Rattle.sql_gen_star_meaning.specs.declared.arm.Asked.TheVariants.{Constant, Again, New, Maybe}
use Rattle.sql_gen_star_meaning.specs.Asked.{asked_vars}
use Rattle.sql_gen_star_meaning.specs.SideTables.{entry_name, spill_name, pred_name, val_name, lid_name, elm_name}
use Rattle.sql_gen_star_meaning.specs.Partials.{cell_name, AccessArm}

-- the alias of the primary table: h
abbrev pub star_alias : Name
star_alias = 104 ∷ []

-- the alias of the lists: d
abbrev pub list_alias : Name
list_alias = 100 ∷ []

-- WHERE with all of these tests, or no WHERE
abbrev pub where_every : List SqlExpr → Option SqlExpr
where_every [] = None
where_every (e ∷ es) = Some (every (e ∷ es))

-- the row's entity
abbrev pub entry_sql : SqlExpr
entry_sql = sql.Name star_alias entry_name

-- ---- access

-- where the predicate stands in this column, its cell
abbrev pub branch_sql : ℕ → ℕ → Branch
branch_sql p c = record { test = sql.Equal (sql.Name star_alias (pred_name c)) (sql.Int (pos p)); value = sql.Name star_alias (val_name c) }

-- the cell under a predicate, in whichever of its columns it stands
abbrev pub found_sql : ℕ → List ℕ → SqlExpr
found_sql p columns = sql.Case (map (branch_sql p) columns) (sql.Null kind.Int)

-- first: the row's number is 0
abbrev pub spill_tests : Bool → List SqlExpr
spill_tests true = sql.Equal (sql.Name star_alias spill_name) (sql.Int (pos 0)) ∷ []
spill_tests false = []

-- the entity is the constant
abbrev pub entity_tests : Asked → List SqlExpr
entity_tests (Constant n) = sql.Equal entry_sql (sql.Int (pos n)) ∷ []
entity_tests _ = []

-- the one variable of an access step is the entity's
abbrev pub entity_sql : ℕ → SqlExpr
entity_sql v = entry_sql

-- the cell of the arm with a number
abbrev pub arm_sql : (ℕ → AccessArm) → ℕ → SqlExpr
arm_sql arms i = found_sql (arms i).pred (arms i).columns

-- a column of an arm's cell
abbrev pub cell_item : (ℕ → SqlExpr) → ℕ → Item
cell_item f i = record { expr = f i; name = cell_name i }

-- reads the primary table once; first: rows of number 0 alone
abbrev pub access_core : Name → Bool → Asked → (ℕ → AccessArm) → List ℕ → Core
access_core primary first entity arms cells = record {
  distinct = false;
  items = one_item ∷ (map (variable_item entity_sql) (asked_vars entity []) ++ map (cell_item (arm_sql arms)) cells);
  from = Some (record { table = primary; alias = star_alias });
  joins = [];
  condition = where_every (spill_tests first ++ entity_tests entity);
  keys = [];
  most = None;
  skip = None;
}

-- ---- open

-- the elements of a list, or the one value
abbrev pub opened_sql : ℕ → SqlExpr
opened_sql i = sql.First (sql.Name list_alias elm_name ∷ sql.Name left_alias (cell_name i) ∷ [])

-- a null is no number, so only a new variable asks for a value that isn't null
abbrev pub open_tests : ℕ → Asked → List SqlExpr
open_tests i (Constant n) = sql.Equal (opened_sql i) (sql.Int (pos n)) ∷ []
open_tests i (Again v) = sql.Equal (opened_sql i) (cell_of left_alias v) ∷ []
open_tests i (New v) = sql.Not (sql.IsNull (opened_sql i)) ∷ []
open_tests i (Maybe v) = []

-- the value for its own variable, and for others what they have before
abbrev pub or_opened : ℕ → ℕ → ℕ → SqlExpr
or_opened i v w = if w == v then opened_sql i else cell_of left_alias w

-- a variable's column after the arm i
abbrev pub open_sql : ℕ → Asked → ℕ → SqlExpr
open_sql i (Constant n) w = cell_of left_alias w
open_sql i (Again v) w = cell_of left_alias w
open_sql i (New v) w = or_opened i v w
open_sql i (Maybe v) w = or_opened i v w

-- a cell of the step before
abbrev pub kept_sql : ℕ → SqlExpr
kept_sql i = sql.Name left_alias (cell_name i)

-- opens the arm i of the step before; the cells of the arms in kept stay
abbrev pub open_core : Name → Name → List ℕ → ℕ → List ℕ → Asked → Core
open_core before lists vs i kept a = record {
  distinct = false;
  items = one_item ∷ (map (variable_item (open_sql i a)) (asked_vars a vs) ++ map (cell_item kept_sql) kept);
  from = Some (record { table = before; alias = left_alias });
  joins = record { left = true; source = record { table = lists; alias = list_alias }; on = sql.Equal (sql.Name list_alias lid_name) (kept_sql i) } ∷ [];
  condition = where_every (open_tests i a);
  keys = [];
  most = None;
  skip = None;
}
