use Rattle.run_exec.proofs.Asks.{parts_ask, sql_refused}
use Rattle.run_exec.proofs.parts.read_parts.Goals as goal

pub returns-in-Ok-script_behind-clause-ok : goal.returns-in-Ok-script_behind-clause-ok
returns-in-Ok-script_behind-clause-ok c =
    parts_ask c.args.text.now c.in-Ok.read.tables c.in-Ok.read.sql_at c.in-Ok-script_behind.script c.in-Ok.ensures.ok c.in-Ok-script_behind.ensures.ok

pub returns-in-Err-script_behind-clause-err : goal.returns-in-Err-script_behind-clause-err
returns-in-Err-script_behind-clause-err c =
    sql_refused c.args.text.now c.in-Ok.read.tables c.in-Ok.read.sql_at c.in-Err-script_behind.status c.in-Ok.ensures.ok c.in-Err-script_behind.ensures.err
