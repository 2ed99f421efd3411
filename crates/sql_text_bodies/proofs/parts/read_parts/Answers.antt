use Rattle.std.proofs.Common.{rules}
use Rattle.sql_meaning.specs.Grammar.{Parts}
use Rattle.sql_text_cursor.specs.Outcomes.{Stops}
use Rattle.sql_text_bodies.specs.Parts as parts
use Rattle.sql_text_bodies.proofs.parts.read_parts.Goals as goal

pub returns-clause-reads : goal.returns-clause-reads
returns-clause-reads c =
    parts.parts_got _ _ _ _ _ _ _ _ c.in_ok-items.ensures.reads c.in_ok-from.ensures.reads c.in_ok-condition.ensures.reads

pub returns-in_err-condition-clause-refuses : goal.returns-in_err-condition-clause-refuses
returns-in_err-condition-clause-refuses c =
    let h : Stops Parts c.args.tokens.now c.in_err-condition.field-0.0 = parts.parts_where_stops _ _ _ _ _ _ _ c.in_ok-items.ensures.reads c.in_ok-from.ensures.reads c.in_err-condition.ensures.refuses in
    search rules

pub returns-in_err-from-clause-refuses : goal.returns-in_err-from-clause-refuses
returns-in_err-from-clause-refuses c =
    let h : Stops Parts c.args.tokens.now c.in_err-from.field-0.0 = parts.parts_from_stops _ _ _ _ c.in_ok-items.ensures.reads c.in_err-from.ensures.refuses in
    search rules
