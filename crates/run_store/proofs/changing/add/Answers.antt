use Rattle.run_store.proofs.Making.{added-no-lists, added-passes}
use Rattle.run_store.proofs.changing.add.Goals as goal

pub load_refusal-requires : goal.load_refusal-requires
load_refusal-requires c = added-no-lists c.args.store.now c.args.t.now c.in-Err.refusal c.requires c.in-Err.ensures.refused

pub returns-in-Err-clause-passed : goal.returns-in-Err-clause-passed
returns-in-Err-clause-passed c = added-passes c.args.store.now c.args.t.now c.in-Err.refusal c.load_refusal.result c.in-Err.ensures.refused c.load_refusal.ensures
