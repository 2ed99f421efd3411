use Rattle.std.proofs.Common.{rules, arith}
use Rattle.sql_meaning.specs.Grammar.{Unions}
use Rattle.sql_text_cursor.specs.Outcomes.{Stops}
use Rattle.sql_text_bodies.specs.Bodies as bodies
use Rattle.sql_text_bodies.proofs.bodies.read_unions.Goals as goal

pub cores-init : goal.cores-init
cores-init c =
    (bodies.unions_made _ _ _ _ _ _ _ c.in_ok-core.ensures.reads c.new-cores.ensures c.in_ok-push.ensures.ok c.in_ok-push-2.ensures.ok, c.in_ok-core.ensures.shorter)

pub returns-in_err-core-2-clause-refuses : goal.returns-in_err-core-2-clause-refuses
returns-in_err-core-2-clause-refuses c =
    let h : Stops Unions c.args.tokens.now c.in_err-core-2.field-0.0 = bodies.unions_later_stops _ _ _ _ _ c.cores.invariant.0 (c.stands.ensures.yes c.cores-test.true) c.in_err-core-2.ensures.refuses in
    search rules

pub cores-preserved : goal.cores-preserved
cores-preserved c =
    let k = c.in_ok-core-2.ensures.shorter in
    (bodies.unions_added _ _ _ _ _ _ _ c.cores.invariant.0 (c.stands.ensures.yes c.cores-test.true) c.in_ok-core-2.ensures.reads c.in_ok-push-3.ensures.ok, omega (arith, k, c.cores.invariant.1))

pub returns-clause-reads : goal.returns-clause-reads
returns-clause-reads c =
    bodies.unions_end _ _ _ _ c.cores.invariant.0 (c.stands.ensures.no c.cores-test.false)
