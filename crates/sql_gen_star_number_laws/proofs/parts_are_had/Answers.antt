use Rattle.sql_gen_star_number_laws.proofs.Fill.{access_has}
use Rattle.sql_gen_star_number_laws.proofs.parts_are_had.Goals as goal

pub returns : goal.returns
returns c = access_has
