use Rattle.sql_gen_open_laws.proofs.Chain.{openings_hold}
use Rattle.sql_gen_open_laws.proofs.openings_open.Goals as goal

pub returns : goal.returns
returns c = openings_hold
