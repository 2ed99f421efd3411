use Rattle.std.proofs.Common.{◌≡◌, ◌≤◌, ◌+◌, length}
use Rattle.sparql_meaning.specs.Tokens.{name_from}
use Rattle.sparql_tokens.specs.Table.{kept}
use Rattle.sparql_tokens.proofs.names.name_len.Given as goal

abbrev pub invariant-parts : goal.invariant-parts
invariant-parts l = record { value : kept l.end l.at (name_from l.local 0 l.rest) ≡ name_from l.local 0 l.chars; order : l.end ≤ l.at; count : l.at + length l.rest ≡ length l.chars }

abbrev pub decreases-parts : goal.decreases-parts
decreases-parts l = length l.rest
