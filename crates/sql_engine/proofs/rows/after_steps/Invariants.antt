use Rattle.std.proofs.Common.{◌≡◌, drop}
use Rattle.sql_bind_meaning.specs.Rows.{table_relations, after_bound_steps}
use Rattle.sql_engine.proofs.rows.after_steps.Given as goal

abbrev pub invariant-loop-step : goal.invariant-loop-step
invariant-loop-step g l =
    after_bound_steps l.steps (table_relations (g.T.TableSet.named_tables l.fn.tables)) ≡ after_bound_steps (drop l.step-index l.steps) l.relations
