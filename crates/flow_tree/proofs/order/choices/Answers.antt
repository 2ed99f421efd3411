use Rattle.std.proofs.Common.{◌≡◌, ◌+◌, ◌-◌, suc, length, arith, rules}
use Rattle.flow_tree.proofs.Taking.{flow_starts, flow_goes_on, flow_stops, flow_ends}
use Rattle.flow_tree.proofs.order.choices.Goals as goal

pub loop-init : goal.loop-init
loop-init c = rw c.new-taken.ensures.items (flow_starts _ _ _ _ (omega arith) c.empty-bound.ensures)

pub loop-preserved : goal.loop-preserved
loop-preserved c =
    flow_goes_on c.args.counts.now c.args.patterns.now c.loop.bound c.with_pattern-bound.result (length c.args.patterns.now - c.loop.index) (length c.args.patterns.now - (c.loop.index + 1)) c.loop.taken.items c.push.new.self.items
    c.least.result c.in-Some.choice c.loop.invariant (omega (arith, c.loop-test.true)) (search rules) (search rules) (search rules) (search rules)

pub returns-in_default : goal.returns-in_default
returns-in_default c =
    flow_stops c.args.counts.now c.args.patterns.now c.loop.bound (length c.args.patterns.now - c.loop.index) (length c.args.patterns.now - (c.loop.index + 1)) c.loop.taken.items c.least.result
    c.loop.invariant (omega (arith, c.loop-test.true)) (search rules) (search rules)

pub returns : goal.returns
returns c = flow_ends _ _ _ _ _ c.loop.invariant (omega (arith, c.loop-test.false))
