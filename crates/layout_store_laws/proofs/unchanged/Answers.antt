use Rattle.layout_store_laws.proofs.Same.{there-unchanged, absent-unchanged}
use Rattle.layout_store_laws.proofs.unchanged.Goals as goal

pub returns-clause-there : goal.returns-clause-there
returns-clause-there c = there-unchanged

pub returns-clause-absent : goal.returns-clause-absent
returns-clause-absent c = absent-unchanged
