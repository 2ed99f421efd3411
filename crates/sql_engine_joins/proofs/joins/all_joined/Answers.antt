use Rattle.std.proofs.Common.{◌≡◌, ◌<◌, ◌+◌, ℕ, List, ◌∷◌, drop, length, sym, ap, ◌∙◌, arith}
use Rattle.std.proofs.lemmas.List.{drop_more}
use Rattle.sql_bind_meaning.specs.declared.script.BoundJoin.{BoundJoin}
use Rattle.sql_bind_meaning.specs.Sources.{bound_all_joined}
use Rattle.sql_engine_joins.specs.Rows.{all_picked}
use Rattle.sql_engine_joins.proofs.Added.{other_sources}
use Rattle.sql_engine_joins.proofs.joins.all_joined.Goals as goal

pub loop-join-preserved : goal.loop-join-preserved
loop-join-preserved g c =
    let s = c.args.sources.now in
    let joins = c.args.joins.now in
    let at = c.loop-join.join-index in
    let join = c.join-item.result in
    let lt : at < length joins = omega (arith, c.loop-join-test.true) in
    let next : drop at joins ≡ join ∷ drop (at + 1) joins = drop_more joins at join lt ∙ ap (λ (j : BoundJoin). j ∷ drop (at + 1) joins) (sym c.join-item.is) in
    record {
      width = omega (arith, c.in_ok-rows.ensures.width, c.loop-join.invariant.width);
      rows = c.loop-join.invariant.rows ∙ ap (λ (js : List BoundJoin). bound_all_joined s.relations js (all_picked s c.loop-join.rows)) next
          ∙ ap (bound_all_joined s.relations (drop (at + 1) joins)) (sym c.in_ok-rows.ensures.rows);
      sources = ap (λ (width : ℕ). drop width s.numbers) c.in_ok-rows.ensures.width ∙ other_sources s.numbers c.loop-join.rows.width joins at join lt c.join-item.is c.loop-join.invariant.sources;
    }
