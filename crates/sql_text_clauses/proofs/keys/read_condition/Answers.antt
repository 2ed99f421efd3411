use Rattle.sql_text_clauses.specs.Keys.{condition_got}
use Rattle.sql_text_clauses.proofs.keys.read_condition.Goals as goal

pub returns-clause-reads : goal.returns-clause-reads
returns-clause-reads c =
    condition_got _ _ _ _ c.in_ok-rest.ensures.reads c.in_ok-condition.ensures.reads
