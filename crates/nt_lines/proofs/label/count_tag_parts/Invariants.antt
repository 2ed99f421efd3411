use Rattle.std.proofs.Common.{◌≡◌, ◌+◌, drop}
use Rattle.std.specs.List.{prefix_len}
use Rattle.line_meaning.specs.Characters.{is_tag_part}
use Rattle.nt_lines.proofs.label.count_tag_parts.Given as goal

abbrev pub invariant-loop-i : goal.invariant-loop-i
invariant-loop-i l = l.i + prefix_len is_tag_part (drop l.i l.chars) ≡ prefix_len is_tag_part l.chars
