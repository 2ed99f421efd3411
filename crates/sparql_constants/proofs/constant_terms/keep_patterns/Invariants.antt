use Rattle.std.proofs.Common.{◌≡◌, drop}
use Rattle.std.specs.List.{flat_map}
use Rattle.sparql_meaning.specs.Constants.{kept_once, pattern_constants}
use Rattle.sparql_constants.proofs.constant_terms.keep_patterns.Given as goal

abbrev pub invariant-loop-pattern : goal.invariant-loop-pattern
invariant-loop-pattern l =
    kept_once l.kept (flat_map pattern_constants (drop l.pattern-index l.patterns)) ≡ kept_once l.initial.kept (flat_map pattern_constants l.patterns)
