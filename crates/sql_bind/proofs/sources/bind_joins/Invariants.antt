use Rattle.std.proofs.Common.{◌≡◌, ◌++◌, drop}
use Rattle.sql_rows_meaning.specs.Scopes.{schemas_of}
use Rattle.sql_rows_meaning.specs.Binding.{check_joins}
use Rattle.sql_bind_laws.specs.Places.{seen_of, all_sources, place_joins}
use Rattle.sql_bind.proofs.sources.bind_joins.Given as goal

abbrev pub invariant-loop-join : goal.invariant-loop-join
invariant-loop-join l = record {
  fine : check_joins (schemas_of l.known) l.joins (seen_of l.fn.first) ≡ check_joins (schemas_of l.known) (drop l.join-index l.joins) (seen_of l.sources);
  sources : all_sources l.known l.fn.first l.joins ≡ all_sources l.known l.sources (drop l.join-index l.joins);
  placed : place_joins l.known l.fn.first l.joins ≡ l.bound ++ place_joins l.known l.sources (drop l.join-index l.joins);
}
