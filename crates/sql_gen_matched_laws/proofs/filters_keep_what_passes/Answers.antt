use Rattle.sql_gen_matched_laws.proofs.Passed.{filter_matches}
use Rattle.sql_gen_matched_laws.proofs.filters_keep_what_passes.Goals as goal

pub returns : goal.returns
returns c = filter_matches
