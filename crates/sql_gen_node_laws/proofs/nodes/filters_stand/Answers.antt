use Rattle.sql_gen_node_laws.proofs.LoneNodes.{filter-of_nodes}
use Rattle.sql_gen_node_laws.proofs.nodes.filters_stand.Goals as goal

pub returns : goal.returns
returns c = filter-of_nodes
