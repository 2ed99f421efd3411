use Rattle.layout_side_laws.proofs.Values.{placed-values, taken-values}
use Rattle.layout_side_laws.proofs.values_keep_their_order.Goals as goal

pub returns-clause-placed : goal.returns-clause-placed
returns-clause-placed c = placed-values

pub returns-clause-taken : goal.returns-clause-taken
returns-clause-taken c = taken-values
