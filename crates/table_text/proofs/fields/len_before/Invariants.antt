use Rattle.std.proofs.Common.{◌≡◌, ◌+◌, drop}
use Rattle.std.specs.List.{prefix_len}
use Rattle.table_text.specs.Reading.{is_other}
use Rattle.table_text.proofs.fields.len_before.Given as goal

abbrev pub invariant-loop-i : goal.invariant-loop-i
invariant-loop-i l = l.i + prefix_len (is_other l.stop) (drop l.i l.bytes) ≡ prefix_len (is_other l.stop) l.bytes
