use Rattle.std.proofs.Common.{◌≡◌, ◌≤◌, ◌++◌, take, drop, length}
use Rattle.layout_meaning.specs.Side.{place_new}
use Rattle.primary_rows.proofs.rows.EntityRows.place_new.Given as goal

abbrev pub invariant-loop-at : goal.invariant-loop-at
invariant-loop-at l = record {
  same : l.self-inside.rows.items ≡ l.fn.self;
  few : length l.self-inside.rows.items ≤ 4294967295;
  rest : place_new l.width l.columns (record { pred = l.pred; value = l.value }) l.self-inside.rows.items
      ≡ take l.at l.self-inside.rows.items ++ place_new l.width l.columns (record { pred = l.pred; value = l.value }) (drop l.at l.self-inside.rows.items);
}
