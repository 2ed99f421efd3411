use Rattle.run_exec.proofs.Asks.{deep_asks, broken_asks}
use Rattle.run_exec.proofs.parts.script_behind.Goals as goal

pub returns-in-Err-Deep-clause-err : goal.returns-in-Err-Deep-clause-err
returns-in-Err-Deep-clause-err c = deep_asks c.args.text.now c.args.sql_at c.in-Err-Deep.field-0 c.in-Err-Deep.ensures.refuses c.in-Err-Deep.field-0-is

pub returns-in-Err-Syntax-clause-err : goal.returns-in-Err-Syntax-clause-err
returns-in-Err-Syntax-clause-err c = broken_asks c.args.text.now c.args.sql_at c.in-Err-Syntax.at c.in-Err-Syntax.field-0 c.in-Err-Syntax.ensures.refuses c.in-Err-Syntax.field-0-is
