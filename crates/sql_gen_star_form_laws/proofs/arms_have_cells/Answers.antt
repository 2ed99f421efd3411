use Rattle.sql_gen_star_form_laws.proofs.Cells.{cells-read, cells-kept}
use Rattle.sql_gen_star_form_laws.proofs.arms_have_cells.Goals as goal

pub returns-clause-read : goal.returns-clause-read
returns-clause-read c = cells-read

pub returns-clause-kept : goal.returns-clause-kept
returns-clause-kept c = cells-kept
