use Rattle.sparql_grammar.specs.QuerySteps.{left_over}
use Rattle.sparql_grammar.proofs.whole.read_written.Goals as goal

pub returns-in-Some-clause-err : goal.returns-in-Some-clause-err
returns-in-Some-clause-err c = left_over _ _ _ _ _ _ c.in_ok-written.ensures.reads c.in-Some.ensures
