use Rattle.sql_gen_star_binding_laws.proofs.Chain.{openings_fine, openings_there, openings_keep}
use Rattle.sql_gen_star_binding_laws.proofs.steps_of_openings_bind.Goals as goal

pub returns-clause-binds : goal.returns-clause-binds
returns-clause-binds c = openings_fine

pub returns-clause-there : goal.returns-clause-there
returns-clause-there c = openings_there

pub returns-clause-others : goal.returns-clause-others
returns-clause-others c = openings_keep
