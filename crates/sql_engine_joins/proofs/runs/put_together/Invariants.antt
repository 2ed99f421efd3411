use Rattle.std.proofs.Common.{◌≡◌, IsOk, take}
use Rattle.std.specs.List.{All, flat_map}
use Rattle.sql_engine_joins.specs.Runs.{run_rows}
use Rattle.sql_engine_joins.proofs.runs.put_together.Given as goal

abbrev pub invariant-loop-run : goal.invariant-loop-run
invariant-loop-run l = record {
  all : l.all ≡ record { width = l.width; rows = flat_map run_rows (take l.run-index l.runs) };
  done : All IsOk (take l.run-index l.runs);
}
