use Rattle.layout_placed_laws.proofs.Steps.{parts, nothing-behind, deletion-behind}
use Rattle.layout_placed_laws.proofs.bulk_first.Goals as goal

pub returns-clause-parts : goal.returns-clause-parts
returns-clause-parts c = parts

pub returns-clause-alone : goal.returns-clause-alone
returns-clause-alone c = nothing-behind

pub returns-clause-followed : goal.returns-clause-followed
returns-clause-followed c = deletion-behind
