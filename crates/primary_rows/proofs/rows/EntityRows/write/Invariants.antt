use Rattle.std.proofs.Common.{◌≡◌, ◌≤◌, ◌++◌, take, drop, length}
use Rattle.layout_meaning.specs.Side.{write}
use Rattle.primary_rows.specs.Cells.{pair_with}
use Rattle.primary_rows.proofs.rows.EntityRows.write.Given as goal

abbrev pub invariant-loop-at : goal.invariant-loop-at
invariant-loop-at l = record {
  same : l.self-inside.rows.items ≡ l.fn.self;
  few : length l.self-inside.rows.items ≤ 4294967295;
  rest : write l.pred (pair_with l.pred l.value) l.self-inside.rows.items ≡ take l.at l.self-inside.rows.items ++ write l.pred (pair_with l.pred l.value) (drop l.at l.self-inside.rows.items);
}
