use Rattle.std.proofs.Common.{◌≡◌, ◌++◌, map, take, drop, IsTrue}
use Rattle.std.specs.List.{list_all}
use Rattle.layout_meaning.specs.Side.{write_in_row}
use Rattle.primary_rows.specs.Cells.{pair_of, pair_with, fits}
use Rattle.primary_rows.proofs.cells.Row.write.Given as goal

abbrev pub invariant-loop-at : goal.invariant-loop-at
invariant-loop-at l = record {
  same : map pair_of l.self-inside.pairs.items ≡ l.fn.self;
  fit : IsTrue (list_all fits l.self-inside.pairs.items);
  rest : write_in_row l.pred (pair_with l.pred l.value) (map pair_of l.self-inside.pairs.items)
      ≡ map pair_of (take l.at l.self-inside.pairs.items) ++ write_in_row l.pred (pair_with l.pred l.value) (map pair_of (drop l.at l.self-inside.pairs.items));
}
