use Rattle.std.proofs.Common.{drop}
use Rattle.sparql_variables.specs.Bits.{members}
use Rattle.flow_tree.proofs.Choosing.{Rest}
use Rattle.flow_tree.proofs.least.least.Given as goal

abbrev pub invariant-loop-pattern : goal.invariant-loop-pattern
invariant-loop-pattern l = Rest l.counts (members l.bound) l.taken l.best (drop l.pattern-index l.patterns) l.patterns
