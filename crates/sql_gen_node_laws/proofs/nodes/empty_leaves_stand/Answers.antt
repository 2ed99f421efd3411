use Rattle.sql_gen_node_laws.proofs.LoneNodes.{empty-leaf}
use Rattle.sql_gen_node_laws.proofs.nodes.empty_leaves_stand.Goals as goal

pub returns : goal.returns
returns c = empty-leaf
