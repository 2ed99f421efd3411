use Rattle.std.proofs.Common.{◌≡◌, ◌+◌, length}
use Rattle.sparql_meaning.specs.Cut.{size}
use Rattle.sparql_tokens.proofs.cutting.byte_len.Given as goal

abbrev pub invariant-chars : goal.invariant-chars
invariant-chars l = l.bytes + size l.rest ≡ size l.text

abbrev pub decreases-chars : goal.decreases-chars
decreases-chars l = length l.rest
