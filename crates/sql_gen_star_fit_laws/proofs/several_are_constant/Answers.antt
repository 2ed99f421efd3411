use Rattle.sql_gen_star_fit_laws.proofs.Fits.{several}
use Rattle.sql_gen_star_fit_laws.proofs.several_are_constant.Goals as goal

pub returns : goal.returns
returns c = several
