use Rattle.sql_gen_script_laws.proofs.Right.{scripts-right}
use Rattle.sql_gen_script_laws.proofs.scripts_are_right.Goals as goal

pub returns : goal.returns
returns c = scripts-right
