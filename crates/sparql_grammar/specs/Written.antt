-- What was read, as the grammar has it.
use Rattle.sparql_grammar_meaning.specs.Grammar.{cut_of}
use Rattle.sparql_grammar_meaning.specs.Grammar.{Written as WrittenQuery}
use Rattle.sparql_grammar.specs.declared.whole.Written.{Written}

abbrev pub written : Written → WrittenQuery
written w = record { distinct = w.distinct; shown = w.shown; elements = w.elements; keys = w.keys; cut = cut_of w.slice.skip w.slice.most }
