use Rattle.std.proofs.Common.{◌≡◌, [], take, drop}
use Rattle.sql_rows_meaning.specs.Binding.{check_items}
use Rattle.sql_bind_laws.specs.Places.{places_of, place_items}
use Rattle.sql_bind_names.specs.Newest.{scope_in}
use Rattle.sql_bind.proofs.ItemSteps.{behind}
use Rattle.sql_bind.proofs.items.bind_items.Given as goal

abbrev pub invariant-loop-item : goal.invariant-loop-item
invariant-loop-item l = record {
  fine : check_items (scope_in l.sources) [] l.items ≡ behind l.columns.items (check_items (scope_in l.sources) l.names (drop l.item-index l.items));
  exprs : l.exprs ≡ place_items (places_of l.sources) (take l.item-index l.items);
}
