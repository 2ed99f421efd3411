use Rattle.query_algebra_laws.specs.TreeSolutions.{eval-binds}
use Rattle.tree_visitors.proofs.TreeSets.{certain-LeftJoin}
use Rattle.tree_visitors.proofs.certain.CertainTreeFold.left_join.Goals as goal

pub returns-clause-out : goal.returns-clause-out
returns-clause-out g c = record {
  rule = certain-LeftJoin g.L.LeafVars.certain _ _ _ _ _ c.requires.shape.3 c.requires.shape.4.rule;
  bound = λ triples. eval-binds (λ l. g.L.LeafVars.solutions l triples) g.L.LeafVars.certain (λ l. g.met.L.LeafVars.bound l triples) _;
}
