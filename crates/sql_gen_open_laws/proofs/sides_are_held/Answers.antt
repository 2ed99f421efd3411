use Rattle.sql_gen_open_laws.proofs.SidesHeld.{held_direct, held_reverse}
use Rattle.sql_gen_open_laws.proofs.sides_are_held.Goals as goal

pub returns-clause-direct : goal.returns-clause-direct
returns-clause-direct c = held_direct

pub returns-clause-reverse : goal.returns-clause-reverse
returns-clause-reverse c = held_reverse
