use Rattle.std.proofs.Common.{◌≡◌, drop, map}
use Rattle.std.specs.Char.{to_ascii_uppercase}
use Rattle.sparql_meaning.specs.Words.{word_in}
use Rattle.sparql_tokens.specs.Table.{view}
use Rattle.sparql_tokens.proofs.words.word_in.Given as goal

abbrev pub invariant-loop-row : goal.invariant-loop-row
invariant-loop-row l = word_in (map view l.rows) (map to_ascii_uppercase l.chars) ≡ word_in (map view (drop l.row-index l.rows)) (map to_ascii_uppercase l.chars)
