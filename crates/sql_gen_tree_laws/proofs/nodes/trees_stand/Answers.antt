use Rattle.sql_gen_tree_laws.proofs.TreeNodes.{plan-stands}
use Rattle.sql_gen_tree_laws.proofs.nodes.trees_stand.Goals as goal

pub returns : goal.returns
returns c = plan-stands
