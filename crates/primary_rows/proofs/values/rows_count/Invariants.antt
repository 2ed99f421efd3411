use Rattle.std.proofs.Common.{◌≡◌, ◌+◌, drop}
use Rattle.std.specs.List.{AllByRecursion}
use Rattle.bags.specs.Bag.{total}
use Rattle.primary_rows.specs.Held.{IsThere, pair_count}
use Rattle.primary_rows.proofs.values.rows_count.Given as goal

abbrev pub invariant-loop-row : goal.invariant-loop-row
invariant-loop-row l = record {
  sum : l.count + total (total (pair_count l.lists.lists)) (drop l.row-index l.row-items) ≡ total (total (pair_count l.lists.lists)) l.rows;
  there : AllByRecursion (AllByRecursion (IsThere l.lists.lists)) (drop l.row-index l.row-items);
}
