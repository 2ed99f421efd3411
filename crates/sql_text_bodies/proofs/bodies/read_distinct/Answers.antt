use Rattle.std.proofs.Common.{rules}
use Rattle.sql_text_cursor.specs.Outcomes.{Fault}
use Rattle.sql_text_cursor.specs.Table.{body_after}
use Rattle.sql_text_bodies.specs.Bodies as bodies
use Rattle.sql_text_bodies.proofs.bodies.read_distinct.Goals as goal

pub returns-clause-reads : goal.returns-clause-reads
returns-clause-reads c =
    bodies.distinct_made _ _ _ _ _ _ _ _ c.in_ok-parts.ensures.reads c.in_ok-ending.ensures.reads c.new-cores.ensures c.in_ok-push.ensures.ok c.core_of.ensures

pub returns-in_err-ending-clause-refuses : goal.returns-in_err-ending-clause-refuses
returns-in_err-ending-clause-refuses c =
    let h : Fault body_after bodies.distinct_form c.args.tokens.now c.in_err-ending.field-0.0 = bodies.distinct_ending_stops _ _ _ _ c.in_ok-parts.ensures.reads c.in_err-ending.ensures.refuses in
    search rules
