use Rattle.std.proofs.Common.{rules, arith}
use Rattle.sql_meaning.specs.Grammar.{Sources}
use Rattle.sql_text_cursor.specs.Outcomes.{Stops}
use Rattle.sql_text_clauses.specs.Rows.{sources_start, sources_added, sources_end, sources_later_stops}
use Rattle.sql_text_clauses.proofs.rows.read_sources.Goals as goal

pub joins-init : goal.joins-init
joins-init c =
    let h = c.in_ok-rest.ensures.shorter in
    let i = c.in_ok-source.ensures.shorter in
    (sources_start _ _ _ _ _ c.in_ok-rest.ensures.reads c.in_ok-source.ensures.reads c.new-joins.ensures, omega (arith, h, i))

pub returns-in_err-join-clause-refuses : goal.returns-in_err-join-clause-refuses
returns-in_err-join-clause-refuses c =
    let h : Stops Sources c.args.tokens.now c.in_err-join.field-0.0 = sources_later_stops _ _ _ _ _ c.joins.invariant.0 (c.join_ahead.ensures.yes c.joins-test.true) c.in_err-join.ensures.refuses in
    search rules

pub joins-preserved : goal.joins-preserved
joins-preserved c =
    let k = c.in_ok-join.ensures.shorter in
    (sources_added _ _ _ _ _ _ _ c.joins.invariant.0 (c.join_ahead.ensures.yes c.joins-test.true) c.in_ok-join.ensures.reads c.in_ok-push.ensures.ok, omega (arith, k, c.joins.invariant.1))

pub returns-clause-reads : goal.returns-clause-reads
returns-clause-reads c =
    sources_end _ _ _ _ c.joins.invariant.0 (c.join_ahead.ensures.no c.joins-test.false)
