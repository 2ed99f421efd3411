use Rattle.sql_gen_star_number_laws.proofs.ArmRows.{choices}
use Rattle.sql_gen_star_number_laws.proofs.arms_hold_choices.Goals as goal

pub returns : goal.returns
returns c = choices
