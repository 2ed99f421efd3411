use Rattle.std.proofs.Common.{◌<◌, ◌∷◌, length}
use Rattle.sparql_grammar_meaning.specs.declared.lexeme.Lexeme.TheVariants as lexeme
use Rattle.sparql_grammar_meaning.specs.declared.lexeme.Sign.TheVariants as signs
use Rattle.sparql_modifiers.specs.OrderSteps.{OrderAlong}
use Rattle.sparql_modifiers.proofs.order.read_order.Given as goal

abbrev pub invariant-keys : goal.invariant-keys
invariant-keys l = OrderAlong (lexeme.Sign signs.Order ∷ l.fn.tokens) l.keys l.rest × (length l.rest < length l.fn.tokens)

abbrev pub decreases-keys : goal.decreases-keys
decreases-keys l = length l.rest
