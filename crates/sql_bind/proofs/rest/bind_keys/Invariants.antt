use Rattle.std.proofs.Common.{◌≡◌, take, drop}
use Rattle.sql_rows_meaning.specs.Binding.{check_keys}
use Rattle.sql_bind_laws.specs.Places.{places_of, place_keys}
use Rattle.sql_bind_names.specs.Newest.{scope_in}
use Rattle.sql_bind.proofs.rest.bind_keys.Given as goal

abbrev pub invariant-loop-key : goal.invariant-loop-key
invariant-loop-key l = record {
  fine : check_keys (scope_in l.sources) l.keys ≡ check_keys (scope_in l.sources) (drop l.key-index l.keys);
  placed : l.bound ≡ place_keys (places_of l.sources) (take l.key-index l.keys);
}
