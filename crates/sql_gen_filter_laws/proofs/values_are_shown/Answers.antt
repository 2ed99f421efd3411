use Rattle.sql_gen_filter_laws.proofs.Chains.{value_gives}
use Rattle.sql_gen_filter_laws.proofs.values_are_shown.Goals as goal

pub returns : goal.returns
returns c = value_gives
