use Rattle.std.proofs.Common.{rules}
use Rattle.sql_meaning.specs.Grammar.{OneItem}
use Rattle.sql_text_cursor.specs.Outcomes.{Stops}
use Rattle.sql_text_clauses.specs.Rows.{item_got, item_as_stops, item_name_stops}
use Rattle.sql_text_clauses.proofs.rows.read_item.Goals as goal

pub returns-in_err-rest-clause-refuses : goal.returns-in_err-rest-clause-refuses
returns-in_err-rest-clause-refuses c =
    let h : Stops OneItem c.args.tokens.now c.in_err-rest.field-0.0 = item_as_stops _ _ _ _ c.in_ok-expr.ensures.reads c.in_err-rest.ensures.refuses in
    search rules

pub returns-in_err-name-clause-refuses : goal.returns-in_err-name-clause-refuses
returns-in_err-name-clause-refuses c =
    let h : Stops OneItem c.args.tokens.now c.in_err-name.field-0.0 = item_name_stops _ _ _ _ _ c.in_ok-expr.ensures.reads c.in_ok-rest.ensures.reads c.in_err-name.ensures.refuses in
    search rules

pub returns-clause-reads : goal.returns-clause-reads
returns-clause-reads c =
    item_got _ _ _ _ _ _ c.in_ok-expr.ensures.reads c.in_ok-rest.ensures.reads c.in_ok-name.ensures.reads
