use Rattle.std.proofs.Common.{rules, arith}
use Rattle.sql_meaning.specs.Grammar.{ItemList}
use Rattle.sql_text_cursor.specs.Outcomes.{Stops}
use Rattle.sql_text_clauses.specs.Rows.{items_made, items_added, items_end, items_later_stops}
use Rattle.sql_text_clauses.proofs.rows.read_items.Goals as goal

pub loop-after-init : goal.loop-after-init
loop-after-init c =
    (items_made _ _ _ _ _ c.in_ok-item.ensures.reads c.new-items.ensures c.in_ok-push.ensures.ok, c.in_ok-item.ensures.shorter)

pub returns-in_err-item-2-clause-refuses : goal.returns-in_err-item-2-clause-refuses
returns-in_err-item-2-clause-refuses c =
    let h : Stops ItemList c.args.tokens.now c.in_err-item-2.field-0.0 = items_later_stops _ _ _ _ _ c.loop-after.invariant.0 c.in-Some.ensures.first c.in_err-item-2.ensures.refuses in
    search rules

pub loop-after-preserved : goal.loop-after-preserved
loop-after-preserved c =
    let h = c.in-Some.ensures.shorter in
    let k = c.in_ok-item-2.ensures.shorter in
    (items_added _ _ _ _ _ _ _ c.loop-after.invariant.0 c.in-Some.ensures.first c.in_ok-item-2.ensures.reads c.in_ok-push-2.ensures.ok, omega (arith, h, k, c.loop-after.invariant.1))

pub returns-clause-reads : goal.returns-clause-reads
returns-clause-reads c =
    items_end _ _ _ c.loop-after.invariant.0 c.in_default.ensures.first
