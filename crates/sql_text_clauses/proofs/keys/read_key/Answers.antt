use Rattle.sql_text_clauses.specs.Keys.{key_got}
use Rattle.sql_text_clauses.proofs.keys.read_key.Goals as goal

pub returns-clause-reads : goal.returns-clause-reads
returns-clause-reads c =
    key_got _ _ _ _ _ c.in_ok-expr.ensures.reads c.may_mark-down.ensures.reads
