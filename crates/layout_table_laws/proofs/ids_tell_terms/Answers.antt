use Rattle.layout_facts_laws.proofs.Ids.{told}
use Rattle.layout_table_laws.proofs.ids_tell_terms.Goals as goal

pub returns : goal.returns
returns c = told
