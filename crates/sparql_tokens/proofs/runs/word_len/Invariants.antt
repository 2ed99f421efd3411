use Rattle.std.proofs.Common.{◌≡◌, ◌+◌, drop}
use Rattle.std.specs.List.{prefix_len}
use Rattle.sparql_meaning.specs.Classes.{is_word_part}
use Rattle.sparql_tokens.proofs.runs.word_len.Given as goal

abbrev pub invariant-loop-i : goal.invariant-loop-i
invariant-loop-i l = l.i + prefix_len is_word_part (drop l.i l.chars) ≡ prefix_len is_word_part l.chars
