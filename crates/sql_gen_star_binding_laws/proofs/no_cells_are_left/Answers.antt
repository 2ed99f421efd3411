use Rattle.sql_gen_star_binding_laws.proofs.InSight.{no-cells}
use Rattle.sql_gen_star_binding_laws.proofs.no_cells_are_left.Goals as goal

pub returns : goal.returns
returns c = no-cells
