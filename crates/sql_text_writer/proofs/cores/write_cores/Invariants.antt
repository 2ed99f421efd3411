use Rattle.std.proofs.Common.{◌≡◌, ◌++◌, drop, map}
use Rattle.rel_cells.specs.Fronts.{KeepsFront}
use Rattle.sql_text_spelling_laws.specs.Pieces.{joined, core_piece}
use Rattle.sql_text_writer.specs.Lists.{left_of}
use Rattle.sql_text_writer.proofs.cores.write_cores.Given as goal

abbrev pub invariant-loop-core : goal.invariant-loop-core
invariant-loop-core l =
    (l.initial.into.items ++ joined l.separator (map core_piece l.cores) ≡ l.into.items ++ left_of l.before l.separator (map core_piece (drop l.core-index l.cores))) × KeepsFront l.initial.into.items l.into.items
