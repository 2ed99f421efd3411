use Rattle.sql_gen_star_binding_laws.proofs.Chain.{arms_fine, arms_there, cells_once}
use Rattle.sql_gen_star_binding_laws.proofs.steps_of_arms_bind.Goals as goal

pub returns-clause-binds : goal.returns-clause-binds
returns-clause-binds c = arms_fine

pub returns-clause-there : goal.returns-clause-there
returns-clause-there c = arms_there

pub returns-clause-cells : goal.returns-clause-cells
returns-clause-cells c = cells_once
