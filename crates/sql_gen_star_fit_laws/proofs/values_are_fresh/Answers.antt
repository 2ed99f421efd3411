use Rattle.sql_gen_star_fit_laws.proofs.Fits.{fresh_values}
use Rattle.sql_gen_star_fit_laws.proofs.values_are_fresh.Goals as goal

pub returns : goal.returns
returns c = fresh_values
