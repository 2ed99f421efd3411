use Rattle.std.proofs.Common.{◌≡◌, drop}
use Rattle.sql_meaning.specs.Marks.{mark_among}
use Rattle.sql_text_tokens.proofs.marks.mark_among.Given as goal

abbrev pub invariant-loop-mark : goal.invariant-loop-mark
invariant-loop-mark l = mark_among l.marks l.bytes ≡ mark_among (drop l.mark-index l.marks) l.bytes
