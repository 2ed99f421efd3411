use Rattle.std.proofs.Common.{List, ◌+◌, ◌-◌, length, ap, ◌∙◌}
use Rattle.sql_bind_meaning.specs.declared.script.BoundJoin.{BoundJoin}
use Rattle.sql_bind_meaning.specs.Sources.{bound_all_joined}
use Rattle.sql_engine_joins.specs.Rows.{all_picked}
use Rattle.sql_engine_joins.proofs.Cut.{run_is}
use Rattle.sql_engine_joins.proofs.runs.run_rows.Goals as goal

pub returns : goal.returns
returns g c =
    let s = c.args.sources.now in
    let first = c.in_ok-first.first in
    run_is s c.args.core.now c.args.relation c.args.start (c.args.end - c.args.start) first c.in_ok-joined.joined c.in_ok-rows.rows c.requires.sources c.in_ok-first.ensures
    (c.in_ok-joined.ensures.width ∙ ap (λ (joins : List BoundJoin). first.width + length joins) c.as_slice.ensures)
    (c.in_ok-joined.ensures.rows ∙ ap (λ (joins : List BoundJoin). bound_all_joined s.relations joins (all_picked s first)) c.as_slice.ensures)
    c.in_ok-rows.ensures.width c.in_ok-rows.ensures.rows
