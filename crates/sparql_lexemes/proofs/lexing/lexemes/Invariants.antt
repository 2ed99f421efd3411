use Rattle.std.proofs.Common.{length}
use Rattle.sparql_lexemes.specs.Declarings.{declaring_of}
use Rattle.sparql_lexemes.specs.Lexed.{Along}
use Rattle.sparql_lexemes.proofs.lexing.lexemes.Given as goal

abbrev pub invariant-tokens : goal.invariant-tokens
invariant-tokens l = Along l.fn.tokens l.lexemes (declaring_of l.scope.declaring) l.scope.prefixes l.scope.names l.rest

abbrev pub decreases-tokens : goal.decreases-tokens
decreases-tokens l = length l.rest
