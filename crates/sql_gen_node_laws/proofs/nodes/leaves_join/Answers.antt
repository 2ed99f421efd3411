use Rattle.sql_gen_node_laws.proofs.Leaves.{join-of_leaves}
use Rattle.sql_gen_node_laws.proofs.nodes.leaves_join.Goals as goal

pub returns : goal.returns
returns c = join-of_leaves
