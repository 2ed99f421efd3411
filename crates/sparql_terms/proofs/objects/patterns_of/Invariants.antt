use Rattle.std.proofs.Common.{◌≡◌, map, take}
use Rattle.sparql_grammar_meaning.specs.Grammar.{pattern_of}
use Rattle.sparql_terms.proofs.objects.patterns_of.Given as goal

abbrev pub invariant-loop-object : goal.invariant-loop-object
invariant-loop-object l = l.patterns ≡ map (pattern_of l.subject l.verb) (take l.object-index l.objects)
