use Rattle.std.proofs.Common.{◌≡◌, ◌+◌, map, take, drop}
use Rattle.sql_rows_meaning.specs.Scopes.{schemas_of}
use Rattle.sql_rows_meaning.specs.Binding.{check_others}
use Rattle.sql_bind_laws.specs.Places.{place_core}
use Rattle.sql_bind.proofs.bodies.bind_others.Given as goal

abbrev pub invariant-loop-at : goal.invariant-loop-at
invariant-loop-at l = record {
  fine : check_others (schemas_of l.known) l.n l.first.columns.items l.cores ≡ check_others (schemas_of l.known) (l.n + l.at) l.first.columns.items (drop l.at l.cores);
  placed : l.bound ≡ map (place_core l.known) (take l.at l.cores);
}
