use Rattle.query_algebra_laws.specs.TreeSolutions.{eval-binds}
use Rattle.tree_visitors.proofs.TreeSets.{certain-Join}
use Rattle.tree_visitors.proofs.certain.CertainTreeFold.join.Goals as goal

pub returns-clause-out : goal.returns-clause-out
returns-clause-out g c = record {
  rule = certain-Join g.L.LeafVars.certain _ _ _ _ _ _ c.requires.shape.2 c.requires.shape.3.rule c.requires.shape.4.rule c.either.ensures;
  bound = λ triples. eval-binds (λ l. g.L.LeafVars.solutions l triples) g.L.LeafVars.certain (λ l. g.met.L.LeafVars.bound l triples) _;
}
