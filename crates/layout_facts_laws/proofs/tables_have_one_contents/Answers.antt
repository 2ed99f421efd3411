use Rattle.layout_facts_laws.proofs.Contents.{one_contents}
use Rattle.layout_facts_laws.proofs.tables_have_one_contents.Goals as goal

pub returns : goal.returns
returns c = one_contents
