use Rattle.sql_gen_node_laws.proofs.BothNodes.{join-of_nodes}
use Rattle.sql_gen_node_laws.proofs.nodes.joins_stand.Goals as goal

pub returns : goal.returns
returns c = join-of_nodes
