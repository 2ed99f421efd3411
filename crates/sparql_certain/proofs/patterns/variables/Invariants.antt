use Rattle.std.proofs.Common.{drop}
use Rattle.query_eval_meaning.specs.Variables.{pattern_variables}
use Rattle.sparql_certain.specs.Patterns.{Rest}
use Rattle.sparql_certain.proofs.patterns.variables.Given as goal

abbrev pub invariant-loop-pattern : goal.invariant-loop-pattern
invariant-loop-pattern l = Rest l.set (drop l.pattern-index l.patterns) (pattern_variables l.patterns)
