use Rattle.sql_gen_matched_laws.proofs.PassedBinds.{passed_fine}
use Rattle.sql_gen_matched_laws.proofs.filters_over_matches_bind.Goals as goal

pub returns : goal.returns
returns c = passed_fine
