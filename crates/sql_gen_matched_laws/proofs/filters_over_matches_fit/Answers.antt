use Rattle.sql_gen_matched_laws.proofs.PassedFits.{passed-fits, passed-no_refs}
use Rattle.sql_gen_matched_laws.proofs.filters_over_matches_fit.Goals as goal

pub returns-clause-fits : goal.returns-clause-fits
returns-clause-fits c = passed-fits

pub returns-clause-none : goal.returns-clause-none
returns-clause-none c = passed-no_refs
