use Rattle.sql_gen_star_fit_laws.proofs.Fits.{is_star}
use Rattle.sql_gen_star_fit_laws.proofs.arms_are_stars.Goals as goal

pub returns : goal.returns
returns c = is_star
