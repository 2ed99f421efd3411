use Rattle.std.proofs.Common.{◌≡◌, length}
use Rattle.sparql_query_meaning.specs.Lexemes.{decimal}
use Rattle.sparql_lexemes.proofs.Decimals.{IsShort}
use Rattle.sparql_lexemes.proofs.numbers.decimal.Given as goal

abbrev pub invariant-digits : goal.invariant-digits
invariant-digits l = record { same : decimal l.number l.rest ≡ decimal 0 l.fn.digits; short : IsShort l.number l.rest }

abbrev pub decreases-digits : goal.decreases-digits
decreases-digits l = length l.rest
