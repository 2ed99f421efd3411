use Rattle.std.proofs.Common.{◌<◌, length, arith}
use Rattle.sql_engine_joins.proofs.Chunks.{together_more, done_more}
use Rattle.sql_engine_joins.proofs.runs.put_together.Goals as goal

pub loop-run-preserved : goal.loop-run-preserved
loop-run-preserved c =
    let lt : c.loop-run.run-index < length c.args.runs.now = omega (arith, c.loop-run-test.true) in
    record {
      all = together_more c.args.runs.now c.loop-run.run-index c.run-item.result c.in-Ok.rows lt c.run-item.is c.in-Ok.is c.args.width c.loop-run.all c.append.new.self c.loop-run.invariant.all c.in_ok-append-in-Ok.ensures;
      done = done_more c.args.runs.now c.loop-run.run-index c.run-item.result c.in-Ok.rows lt c.run-item.is c.in-Ok.is c.loop-run.invariant.done;
    }
