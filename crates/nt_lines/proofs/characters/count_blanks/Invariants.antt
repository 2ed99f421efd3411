use Rattle.std.proofs.Common.{◌≡◌, ◌+◌, drop}
use Rattle.std.specs.List.{prefix_len}
use Rattle.line_meaning.specs.Characters.{is_blank}
use Rattle.nt_lines.proofs.characters.count_blanks.Given as goal

abbrev pub invariant-loop-i : goal.invariant-loop-i
invariant-loop-i l = l.i + prefix_len is_blank (drop l.i l.chars) ≡ prefix_len is_blank l.chars
