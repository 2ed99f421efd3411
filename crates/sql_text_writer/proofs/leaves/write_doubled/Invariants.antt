use Rattle.std.proofs.Common.{◌≡◌, ◌++◌, drop}
use Rattle.rel_cells.specs.Fronts.{KeepsFront}
use Rattle.sql_meaning.specs.Canon.{doubled}
use Rattle.sql_text_writer.proofs.leaves.write_doubled.Given as goal

abbrev pub invariant-loop-byte : goal.invariant-loop-byte
invariant-loop-byte l = (l.initial.into.items ++ doubled l.text ≡ l.into.items ++ doubled (drop l.byte-index l.text)) × KeepsFront l.initial.into.items l.into.items
