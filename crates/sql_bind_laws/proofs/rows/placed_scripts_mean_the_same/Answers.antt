use Rattle.sql_bind_laws.specs.PlacedRows.{script-placed}
use Rattle.sql_bind_laws.proofs.rows.placed_scripts_mean_the_same.Goals as goal

pub returns : goal.returns
returns c = script-placed
