use Rattle.std.proofs.Common.{◌≡◌, ◌+◌, length, string_bytes}
use Rattle.sparql_meaning.specs.Tokens.{behind, body_from}
use Rattle.sparql_tokens.proofs.quoted.body_at.Given as goal

abbrev pub invariant-pieces : goal.invariant-pieces
invariant-pieces l = record { value : behind (string_bytes l.text) l.at (body_from l.quoting 0 l.rest) ≡ body_from l.quoting 0 l.chars; count : l.at + length l.rest ≡ length l.chars }

abbrev pub decreases-pieces : goal.decreases-pieces
decreases-pieces l = length l.rest
