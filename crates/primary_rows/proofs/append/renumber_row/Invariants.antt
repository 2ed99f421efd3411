use Rattle.std.proofs.Common.{◌≡◌, [], length, take, drop}
use Rattle.layout_bulk_meaning.specs.Appended.{lists_in, given_pair, named_by}
use Rattle.layout_bulk_meaning.proofs.Going.{Going}
use Rattle.primary_rows.proofs.append.renumber_row.Given as goal

abbrev pub invariant-loop-at : goal.invariant-loop-at
invariant-loop-at l = record {
  going : Going lists_in given_pair (named_by l.from.lists) [] (take l.at l.row) l.fn.row (drop l.at l.row) l.fn.to l.to;
  wide : length l.row ≡ length l.fn.row;
}
