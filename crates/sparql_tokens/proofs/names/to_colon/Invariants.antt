use Rattle.std.proofs.Common.{◌≡◌, ◌+◌, length}
use Rattle.sparql_meaning.specs.Tokens.{to_colon}
use Rattle.sparql_tokens.specs.Table.{more}
use Rattle.sparql_tokens.proofs.names.to_colon.Given as goal

abbrev pub invariant-chars : goal.invariant-chars
invariant-chars l = record { value : more l.at (to_colon l.rest) ≡ to_colon l.chars; count : l.at + length l.rest ≡ length l.chars }

abbrev pub decreases-chars : goal.decreases-chars
decreases-chars l = length l.rest
