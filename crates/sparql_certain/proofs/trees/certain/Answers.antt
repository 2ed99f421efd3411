use Rattle.query_algebra_laws.specs.TreeSolutions.{eval-binds}
use Rattle.sparql_certain.proofs.trees.certain.Goals as goal

pub returns-clause-bound : goal.returns-clause-bound
returns-clause-bound g c = λ triples. eval-binds (λ l. g.L.LeafVars.solutions l triples) g.L.LeafVars.certain (λ l. g.met.L.LeafVars.bound l triples) c.args.tree.now
