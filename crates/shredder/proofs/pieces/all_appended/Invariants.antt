use Rattle.std.specs.Vec.Iter.{into_iter_items}
use Rattle.layout_bulk_meaning.specs.Bulk.{empty_side}
use Rattle.shredder.proofs.Scans.{Appending}
use Rattle.shredder.proofs.pieces.all_appended.Given as goal

abbrev pub invariant-loop-part : goal.invariant-loop-part
invariant-loop-part l = Appending (empty_side l.fn.columns) l.side l.fn.parts.items (into_iter_items l.part-iterator)
