use Rattle.sql_gen_node_laws.proofs.BothNodes.{optional-of_nodes}
use Rattle.sql_gen_node_laws.proofs.nodes.optional_joins_stand.Goals as goal

pub returns : goal.returns
returns c = optional-of_nodes
