use Rattle.layout_placed_laws.proofs.Steps.{fold-direct_id, fold-reverse_id}
use Rattle.layout_present_laws.proofs.ListIds.{changed-one}
use Rattle.layout_present_laws.proofs.changes_use_one_list_id.Goals as goal

pub returns-clause-one : goal.returns-clause-one
returns-clause-one c = changed-one

pub returns-clause-direct : goal.returns-clause-direct
returns-clause-direct c = fold-direct_id

pub returns-clause-reverse : goal.returns-clause-reverse
returns-clause-reverse c = fold-reverse_id
