use Rattle.layout_laws.proofs.Graphs.{one_colouring}
use Rattle.layout_laws.proofs.Existing.{some_graph}
use Rattle.layout_laws.proofs.entities_have_one_colouring.Goals as goal

pub returns-clause-graph : goal.returns-clause-graph
returns-clause-graph c = some_graph

pub returns-clause-one : goal.returns-clause-one
returns-clause-one c = one_colouring
