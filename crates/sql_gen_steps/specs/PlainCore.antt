-- What the SELECTs over steps share (this project's own).
use Rattle.std.specs.Prelude.{false, List, [], Option, Some, None}
use Rattle.sql_meaning.specs.declared.expression.SqlExpr.{SqlExpr}
use Rattle.sql_meaning.specs.declared.script.Core.{Core}
use Rattle.sql_meaning.specs.declared.script.Item.{Item}
use Rattle.sql_meaning.specs.declared.script.JoinTo.{JoinTo}
use Rattle.sql_gen_step_laws.specs.Carried.{Name}
use Rattle.sql_gen_step_laws.specs.StepSelects.{left_alias}

-- columns of a step and of what is joined to it, where a condition is true; without DISTINCT, ORDER BY, LIMIT and OFFSET
abbrev pub plain_core : List Item → Name → List JoinTo → Option SqlExpr → Core
plain_core items a joins condition = record {
  distinct = false;
  items = items;
  from = Some (record { table = a; alias = left_alias });
  joins = joins;
  condition = condition;
  keys = [];
  most = None;
  skip = None;
}
