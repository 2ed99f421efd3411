use Rattle.sql_gen_node_laws.proofs.BothNodes.{union-of_nodes}
use Rattle.sql_gen_node_laws.proofs.nodes.unions_stand.Goals as goal

pub returns : goal.returns
returns c = union-of_nodes
