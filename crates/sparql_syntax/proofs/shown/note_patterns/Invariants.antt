use Rattle.std.proofs.Common.{◌≡◌, drop}
use Rattle.sparql_query_meaning.specs.Queries.{once, patterns_variables}
use Rattle.sparql_syntax.proofs.shown.note_patterns.Given as goal

abbrev pub invariant-loop-pattern : goal.invariant-loop-pattern
invariant-loop-pattern l = once l.seen (patterns_variables (drop l.pattern-index l.patterns)) ≡ once l.fn.seen (patterns_variables l.patterns)
