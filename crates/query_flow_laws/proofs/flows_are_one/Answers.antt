use Rattle.std.specs.Prelude.{[]}
use Rattle.query_flow_laws.proofs.Greedy.{flow-one}
use Rattle.query_flow_laws.proofs.flows_are_one.Goals as goal

pub returns : goal.returns
returns c = λ counts patterns d flow other f g. flow-one counts [] patterns d flow other f g
