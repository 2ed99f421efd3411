-- One step more is bound.
use Rattle.sql_bind.proofs.ScriptSteps.{bound_more}
use Rattle.sql_bind.proofs.scripts.bind_steps.Goals as goal

pub loop-step-preserved : goal.loop-step-preserved
loop-step-preserved c =
    bound_more c.args.schemas.now c.loop-step.known c.add.new.self c.args.steps.now c.loop-step.next c.in_ok-behind.behind c.loop-step.bodies c.push.new.self c.loop-step.step-index c.step-item.result
    c.in_ok-bound.bound.columns.items c.deref.result.now c.as_slice.result.now c.in_ok-bound.bound.body
    c.loop-step.invariant c.loop-step-test.true c.step-item.is c.in_ok-bound.ensures.new c.in_ok-bound.ensures.columns c.in_ok-bound.ensures.fine
    c.deref.ensures.value c.in_ok-add.ensures c.as_slice.ensures c.in_ok-behind.ensures.number c.in_ok-bound.ensures.body c.in_ok-push.ensures.ok
