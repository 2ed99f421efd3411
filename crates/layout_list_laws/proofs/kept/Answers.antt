use Rattle.layout_list_laws.proofs.Rising.{none-in_order, placed-in_order, taken-in_order, before-in_order}
use Rattle.layout_list_laws.proofs.kept.Goals as goal

pub returns-clause-none : goal.returns-clause-none
returns-clause-none c = none-in_order

pub returns-clause-placed : goal.returns-clause-placed
returns-clause-placed c = placed-in_order

pub returns-clause-taken : goal.returns-clause-taken
returns-clause-taken c = taken-in_order

pub returns-clause-before : goal.returns-clause-before
returns-clause-before c = before-in_order
