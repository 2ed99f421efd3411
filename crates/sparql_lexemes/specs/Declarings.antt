-- What of a declaration was read, as the definition has it.
use Rattle.sparql_query_meaning.specs.Prefixes.{Declaring, nothing, begun, named}
use Rattle.sparql_lexemes.specs.declared.scope.Declaring.{Declaring as Read}
use Rattle.sparql_lexemes.specs.declared.scope.Declaring.TheVariants as r

abbrev pub declaring_of : Read → Declaring
declaring_of r.Nothing = nothing
declaring_of r.Begun = begun
declaring_of (r.Named p) = named p
