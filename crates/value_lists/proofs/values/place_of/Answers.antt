use Rattle.std.proofs.Common.{◌-◌, arith}
use Rattle.value_lists.proofs.Kept.{front-some, removed-once}
use Rattle.value_lists.proofs.values.place_of.Goals as goal

pub returns-clause-place : goal.returns-clause-place
returns-clause-place c =
    let some = front-some c.args.value c.loop-end.end c.args.items.now c.loop-end.invariant.front in
    removed-once c.args.value (c.loop-end.end - 1) 0 c.args.items.now (omega (arith, some)) (omega arith) c.requires.once
