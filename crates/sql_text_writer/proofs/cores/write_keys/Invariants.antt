use Rattle.std.proofs.Common.{◌≡◌, ◌++◌, drop, map, codes}
use Rattle.rel_cells.specs.Fronts.{KeepsFront}
use Rattle.sql_text_spelling_laws.specs.Pieces.{key_piece, order_piece}
use Rattle.sql_text_writer.specs.Lists.{left_of}
use Rattle.sql_text_writer.proofs.cores.write_keys.Given as goal

abbrev pub invariant-loop-key : goal.invariant-loop-key
invariant-loop-key l = (l.initial.into.items ++ order_piece l.keys ≡ l.into.items ++ left_of l.before (codes ", ") (map key_piece (drop l.key-index l.keys))) × KeepsFront l.initial.into.items l.into.items
