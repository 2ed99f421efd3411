use Rattle.std.proofs.Common.{◌≡◌, [], length, take, drop}
use Rattle.std.specs.List.{flat_map}
use Rattle.bags.specs.Bag.{total}
use Rattle.layout_bulk_meaning.specs.Appended.{lists_in, given_row, named_by}
use Rattle.layout_bulk_meaning.proofs.Going.{Going}
use Rattle.primary_rows.proofs.append.moved_rows.Given as goal

abbrev pub invariant-loop-at : goal.invariant-loop-at
invariant-loop-at l = record {
  going : Going (total lists_in) given_row (flat_map (named_by l.from.lists)) [] (take l.at l.rows.items) l.fn.rows (drop l.at l.rows.items) l.fn.to l.to;
  long : length l.rows.items ≡ length l.fn.rows;
}
