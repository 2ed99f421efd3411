use Rattle.sparql_head.specs.HeadSteps.{head_got}
use Rattle.sparql_head.proofs.head.read_head.Goals as goal

pub returns-clause-reads : goal.returns-clause-reads
returns-clause-reads c = head_got _ _ _ _ (rw c.in-Some.ensures at c.in_ok-rest.ensures.reads) c.may_sign-distinct.ensures.reads c.in_ok-shown.ensures.reads c.may_sign.ensures.reads
