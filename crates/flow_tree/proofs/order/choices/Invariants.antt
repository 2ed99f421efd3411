use Rattle.std.proofs.Common.{◌-◌, length}
use Rattle.flow_tree.proofs.Taking.{Rest}
use Rattle.flow_tree.proofs.order.choices.Given as goal

abbrev pub invariant-loop : goal.invariant-loop
invariant-loop l = Rest l.counts l.patterns l.bound l.taken.items (length l.patterns - l.index)
