use Rattle.sql_bind_meaning.specs.Rows.{table_relations}
use Rattle.sql_engine_values.proofs.Stays.{with_step, all_kept}
use Rattle.sql_engine_values.proofs.relations.Relations.add_step.Goals as goal

pub invariant_of-self-2 : goal.invariant_of-self-2
invariant_of-self-2 g c =
    all_kept (table_relations (g.T.TableSet.named_tables c.self.inside.tables.now)) c.self.inside.steps.items c.push.new.self.items c.args.rows.items c.in_ok-push.ensures.items c.self.inside.indexes.items c.self.invariant

pub returns-clause-ok : goal.returns-clause-ok
returns-clause-ok g c =
    with_step (table_relations (g.T.TableSet.named_tables c.self.inside.tables.now)) c.self.inside.steps.items c.push.new.self.items c.args.rows.items c.in_ok-push.ensures.items c.args.self.now c.self.view_is
