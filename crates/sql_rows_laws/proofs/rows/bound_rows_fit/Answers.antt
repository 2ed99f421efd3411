use Rattle.sql_rows_laws.specs.ScriptLaws.{script-fits}
use Rattle.sql_rows_laws.proofs.rows.bound_rows_fit.Goals as goal

pub returns : goal.returns
returns c = script-fits
