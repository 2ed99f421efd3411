use Rattle.std.proofs.Common.{◌≡◌, map, drop, IsTrue}
use Rattle.std.specs.List.{list_all}
use Rattle.layout_meaning.specs.Side.{find_in_row}
use Rattle.primary_rows.specs.Cells.{pair_of, fits}
use Rattle.primary_rows.proofs.cells.Row.find.Given as goal

abbrev pub invariant-loop-pair : goal.invariant-loop-pair
invariant-loop-pair l = record {
  rest : find_in_row l.pred l.self ≡ find_in_row l.pred (map pair_of (drop l.pair-index l.pair-items));
  fit : IsTrue (list_all fits (drop l.pair-index l.pair-items));
}
