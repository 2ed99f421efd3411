use Rattle.std.proofs.Common.{◌≡◌, ◌+◌, map, drop, IsTrue}
use Rattle.std.specs.List.{list_all, AllByRecursion}
use Rattle.bags.specs.Bag.{total}
use Rattle.primary_rows.specs.Cells.{pair_of, fits}
use Rattle.primary_rows.specs.Held.{IsThere, pair_count}
use Rattle.primary_rows.proofs.values.row_count.Given as goal

abbrev pub invariant-loop-pair : goal.invariant-loop-pair
invariant-loop-pair l = record {
  sum : l.count + total (pair_count l.lists.lists) (map pair_of (drop l.pair-index l.pair-items)) ≡ total (pair_count l.lists.lists) l.row;
  fit : IsTrue (list_all fits (drop l.pair-index l.pair-items));
  there : AllByRecursion (IsThere l.lists.lists) (map pair_of (drop l.pair-index l.pair-items));
}
