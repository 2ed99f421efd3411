use Rattle.std.proofs.Common.{◌≡◌, ◌+◌, drop}
use Rattle.std.specs.List.{prefix_len}
use Rattle.line_meaning.specs.Reader.{is_label_or_dot}
use Rattle.nt_lines.proofs.label.count_label_or_dot.Given as goal

abbrev pub invariant-loop-i : goal.invariant-loop-i
invariant-loop-i l = l.i + prefix_len is_label_or_dot (drop l.i l.chars) ≡ prefix_len is_label_or_dot l.chars
