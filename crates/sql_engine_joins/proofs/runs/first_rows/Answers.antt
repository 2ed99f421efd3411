use Rattle.std.proofs.Common.{◌≤◌, arith}
use Rattle.sql_engine_joins.proofs.Chunks.{first_more}
use Rattle.sql_engine_joins.proofs.runs.first_rows.Goals as goal

pub loop-row-preserved : goal.loop-row-preserved
loop-row-preserved c =
    let le : c.args.start ≤ c.loop-row.row = c.loop-row.invariant.from in
    record {
      rows = first_more c.args.start c.loop-row.row c.loop-row.rows c.push.new.self le c.loop-row.invariant.rows c.in_ok-push.ensures;
      from = omega (arith, le);
    }
