use Rattle.std.proofs.Common.{rules}
use Rattle.sql_meaning.specs.Grammar.{OneJoin}
use Rattle.sql_text_cursor.specs.Outcomes.{Stops}
use Rattle.sql_text_clauses.specs.Rows.{join_got, join_on_stops, join_expr_stops}
use Rattle.sql_text_clauses.proofs.rows.read_join.Goals as goal

pub returns-in_err-rest-2-clause-refuses : goal.returns-in_err-rest-2-clause-refuses
returns-in_err-rest-2-clause-refuses c =
    let h : Stops OneJoin c.args.tokens.now c.in_err-rest-2.field-0.0 = join_on_stops _ _ _ _ _ _ _ c.may_mark-left.ensures.reads c.in_ok-rest.ensures.reads c.in_ok-source.ensures.reads c.in_err-rest-2.ensures.refuses in
    search rules

pub returns-in_err-on-clause-refuses : goal.returns-in_err-on-clause-refuses
returns-in_err-on-clause-refuses c =
    let h : Stops OneJoin c.args.tokens.now c.in_err-on.field-0.0 = join_expr_stops _ _ _ _ _ _ _ _ c.may_mark-left.ensures.reads c.in_ok-rest.ensures.reads c.in_ok-source.ensures.reads c.in_ok-rest-2.ensures.reads c.in_err-on.ensures.refuses in
    search rules

pub returns-clause-reads : goal.returns-clause-reads
returns-clause-reads c =
    join_got _ _ _ _ _ _ _ _ _ c.may_mark-left.ensures.reads c.in_ok-rest.ensures.reads c.in_ok-source.ensures.reads c.in_ok-rest-2.ensures.reads c.in_ok-on.ensures.reads
