use Rattle.sql_gen_star_solution_laws.proofs.PairSolutions.{pairs_solve}
use Rattle.sql_gen_star_solution_laws.proofs.items_are_solutions.Goals as goal

pub returns : goal.returns
returns c = pairs_solve
