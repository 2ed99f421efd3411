use Rattle.sql_gen_star_binding_laws.proofs.Parts.{entity_once, asked_once}
use Rattle.sql_gen_star_binding_laws.proofs.variables_stand_once.Goals as goal

pub returns-clause-entity : goal.returns-clause-entity
returns-clause-entity c = entity_once

pub returns-clause-more : goal.returns-clause-more
returns-clause-more c = asked_once
