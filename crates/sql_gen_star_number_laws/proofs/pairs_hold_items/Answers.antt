use Rattle.sql_gen_star_number_laws.proofs.PairItems.{pair_items_held}
use Rattle.sql_gen_star_number_laws.proofs.pairs_hold_items.Goals as goal

pub returns : goal.returns
returns c = pair_items_held
