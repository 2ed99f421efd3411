use Rattle.std.proofs.Common.{arith}
use Rattle.run_compiled.proofs.Compiled.{columns_are}
use Rattle.run_compiled.proofs.script.know_columns.Goals as goal

pub returns : goal.returns
returns c = columns_are c.args.columns.now (omega (arith, c.count.ensures.value, c.count.ensures.low)) (omega (arith, c.count.ensures.value, c.count.ensures.high)) c.count.ensures.some c.count.ensures.within
