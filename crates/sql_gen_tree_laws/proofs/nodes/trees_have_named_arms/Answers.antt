use Rattle.sql_gen_tree_laws.proofs.NamedArms.{tree-named}
use Rattle.sql_gen_tree_laws.proofs.nodes.trees_have_named_arms.Goals as goal

pub returns : goal.returns
returns c = tree-named
