use Rattle.std.proofs.Common.{rules, arith}
use Rattle.sql_meaning.specs.Grammar.{KeyList}
use Rattle.sql_text_cursor.specs.Outcomes.{Stops}
use Rattle.sql_text_clauses.specs.Keys.{keys_made, keys_added, keys_end, keys_later_stops}
use Rattle.sql_text_clauses.proofs.keys.read_keys.Goals as goal

pub loop-after-init : goal.loop-after-init
loop-after-init c =
    let h = c.in_ok-rest.ensures.shorter in
    let i = c.in_ok-rest-2.ensures.shorter in
    let j = c.in_ok-key.ensures.shorter in
    (keys_made _ _ _ _ _ _ _ c.in_ok-rest.ensures.reads c.in_ok-rest-2.ensures.reads c.in_ok-key.ensures.reads c.new-keys.ensures c.in_ok-push.ensures.ok, omega (arith, h, i, j))

pub returns-in_err-key-2-clause-refuses : goal.returns-in_err-key-2-clause-refuses
returns-in_err-key-2-clause-refuses c =
    let h : Stops KeyList c.args.tokens.now c.in_err-key-2.field-0.0 = keys_later_stops _ _ _ _ _ c.loop-after.invariant.0 c.in-Some.ensures.first c.in_err-key-2.ensures.refuses in
    search rules

pub loop-after-preserved : goal.loop-after-preserved
loop-after-preserved c =
    let h = c.in-Some.ensures.shorter in
    let k = c.in_ok-key-2.ensures.shorter in
    (keys_added _ _ _ _ _ _ _ c.loop-after.invariant.0 c.in-Some.ensures.first c.in_ok-key-2.ensures.reads c.in_ok-push-2.ensures.ok, omega (arith, h, k, c.loop-after.invariant.1))

pub returns-clause-reads : goal.returns-clause-reads
returns-clause-reads c =
    keys_end _ _ _ c.loop-after.invariant.0 c.in_default.ensures.first
