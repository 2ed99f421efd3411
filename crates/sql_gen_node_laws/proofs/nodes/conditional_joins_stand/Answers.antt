use Rattle.sql_gen_node_laws.proofs.Conditional.{conditional-of_nodes}
use Rattle.sql_gen_node_laws.proofs.nodes.conditional_joins_stand.Goals as goal

pub returns : goal.returns
returns c = conditional-of_nodes
