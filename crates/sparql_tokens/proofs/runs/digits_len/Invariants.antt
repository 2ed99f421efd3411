use Rattle.std.proofs.Common.{◌≡◌, ◌+◌, drop}
use Rattle.std.specs.List.{prefix_len}
use Rattle.rdf_meaning.specs.Characters.{is_digit}
use Rattle.sparql_tokens.proofs.runs.digits_len.Given as goal

abbrev pub invariant-loop-i : goal.invariant-loop-i
invariant-loop-i l = l.i + prefix_len is_digit (drop l.i l.chars) ≡ prefix_len is_digit l.chars
