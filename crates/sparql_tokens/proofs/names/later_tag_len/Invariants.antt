use Rattle.std.proofs.Common.{◌≡◌, ◌+◌, drop}
use Rattle.sparql_meaning.specs.Tokens.{later_tag_len}
use Rattle.sparql_tokens.proofs.names.later_tag_len.Given as goal

abbrev pub invariant-loop-i : goal.invariant-loop-i
invariant-loop-i l = l.i + later_tag_len (drop l.i l.chars) ≡ later_tag_len l.chars
