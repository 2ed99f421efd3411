use Rattle.layout_store_laws.proofs.ListIds.{stored-one, taken-none, refused-one}
use Rattle.layout_store_laws.proofs.list_ids.Goals as goal

pub returns-clause-stored : goal.returns-clause-stored
returns-clause-stored c = stored-one

pub returns-clause-taken : goal.returns-clause-taken
returns-clause-taken c = taken-none

pub returns-clause-refused : goal.returns-clause-refused
returns-clause-refused c = refused-one
