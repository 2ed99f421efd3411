use Rattle.std.proofs.Common.{◌≡◌, ◌+◌, length, false}
use Rattle.sparql_meaning.specs.Cut.{size, cut_from}
use Rattle.sparql_tokens.specs.Nameless.{IsNameless}
use Rattle.sparql_tokens.specs.Pieces.{before, StartsToken}
use Rattle.sparql_tokens.proofs.cutting.cut_chars.Given as goal

abbrev pub invariant-tokens : goal.invariant-tokens
invariant-tokens l = record { same : before l.tokens (cut_from false 0 l.at l.rest) ≡ cut_from false 0 0 l.text; count : l.at + size l.rest ≡ size l.text; starts : StartsToken l.rest; nameless : IsNameless l.nameless l.rest }

abbrev pub decreases-tokens : goal.decreases-tokens
decreases-tokens l = length l.rest
