use Rattle.std.proofs.Common.{◌≡◌, ◌++◌, drop, map, codes}
use Rattle.rel_cells.specs.Fronts.{KeepsFront}
use Rattle.sql_text_spelling_laws.specs.Pieces.{behind, join_piece}
use Rattle.sql_text_writer.proofs.cores.write_joins.Given as goal

abbrev pub invariant-loop-join : goal.invariant-loop-join
invariant-loop-join l = (l.initial.into.items ++ behind (codes " ") (map join_piece l.joins) ≡ l.into.items ++ behind (codes " ") (map join_piece (drop l.join-index l.joins))) × KeepsFront l.initial.into.items l.into.items
