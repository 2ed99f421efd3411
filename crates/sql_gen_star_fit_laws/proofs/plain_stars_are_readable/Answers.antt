use Rattle.sql_gen_star_fit_laws.proofs.Readable.{both_readable, either_readable}
use Rattle.sql_gen_star_fit_laws.proofs.plain_stars_are_readable.Goals as goal

pub returns-clause-both : goal.returns-clause-both
returns-clause-both c = both_readable

pub returns-clause-either : goal.returns-clause-either
returns-clause-either c = either_readable
