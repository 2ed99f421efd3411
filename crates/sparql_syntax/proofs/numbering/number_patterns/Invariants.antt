use Rattle.std.proofs.Common.{◌≡◌, drop}
use Rattle.sparql_syntax.specs.Numbering.{behind, all_patterns}
use Rattle.sparql_syntax.proofs.numbering.number_patterns.Given as goal

abbrev pub invariant-loop-pattern : goal.invariant-loop-pattern
invariant-loop-pattern l = behind l.made (all_patterns l.next (drop l.pattern-index l.patterns)) ≡ all_patterns l.fn.next l.patterns
