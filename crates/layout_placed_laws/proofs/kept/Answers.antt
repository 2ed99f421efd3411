use Rattle.layout_placed_laws.proofs.Steps.{placed-layout, placed-terms, placed-direct_ids, placed-reverse_ids}
use Rattle.layout_placed_laws.proofs.kept.Goals as goal

pub returns-clause-layout : goal.returns-clause-layout
returns-clause-layout c = placed-layout

pub returns-clause-terms : goal.returns-clause-terms
returns-clause-terms c = placed-terms

pub returns-clause-direct_ids : goal.returns-clause-direct_ids
returns-clause-direct_ids c = placed-direct_ids

pub returns-clause-reverse_ids : goal.returns-clause-reverse_ids
returns-clause-reverse_ids c = placed-reverse_ids
