use Rattle.std.proofs.Common.{◌≡◌, ◌≤◌, ◌-◌, map}
use Rattle.std.specs.List.{range_with_len}
use Rattle.sql_engine_joins.specs.Runs.{one_number}
use Rattle.sql_engine_joins.proofs.runs.first_rows.Given as goal

abbrev pub invariant-loop-row : goal.invariant-loop-row
invariant-loop-row l = record {
  rows : l.rows ≡ record { width = 1; rows = map one_number (range_with_len l.start (l.row - l.start)) };
  from : l.start ≤ l.row;
}
