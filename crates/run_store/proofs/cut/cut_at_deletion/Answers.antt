use Rattle.run_store.proofs.Cuts.{bulk-on, later-on}
use Rattle.run_store.proofs.cut.cut_at_deletion.Goals as goal

pub changes-preserved : goal.changes-preserved
changes-preserved c = (
  bulk-on c.changes.cut.bulk.items c.take.new.self.bulk.items c.changes.cut.later.items c.changes.yielded c.in-Some.change c.in_ok-take.ensures.bulk c.changes.invariant.0 c.changes.invariant.1,
  later-on c.changes.cut.later.items c.take.new.self.later.items c.changes.yielded c.in-Some.change c.in_ok-take.ensures.later c.changes.invariant.1,
)
