use Rattle.sql_gen_star_solution_laws.proofs.WholeStar.{choices_solve}
use Rattle.sql_gen_star_solution_laws.proofs.choices_are_solutions.Goals as goal

pub returns : goal.returns
returns c = choices_solve
