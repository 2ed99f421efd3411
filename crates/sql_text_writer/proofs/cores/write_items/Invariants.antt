use Rattle.std.proofs.Common.{◌≡◌, ◌++◌, drop, map, codes}
use Rattle.rel_cells.specs.Fronts.{KeepsFront}
use Rattle.sql_text_spelling_laws.specs.Pieces.{joined, item_piece}
use Rattle.sql_text_writer.specs.Lists.{left_of}
use Rattle.sql_text_writer.proofs.cores.write_items.Given as goal

abbrev pub invariant-loop-item : goal.invariant-loop-item
invariant-loop-item l = (l.initial.into.items ++ joined (codes ", ") (map item_piece l.items) ≡ l.into.items ++ left_of l.before (codes ", ") (map item_piece (drop l.item-index l.items))) × KeepsFront l.initial.into.items l.into.items
