use Rattle.std.proofs.Common.{◌≡◌, ◌==◌, drop}
use Rattle.std.specs.List.{list_any}
use Rattle.sparql_syntax.proofs.shown.is_seen.Given as goal

abbrev pub invariant-loop-x : goal.invariant-loop-x
invariant-loop-x l = list_any (λ x. x == l.v) (drop l.x-index l.seen) ≡ list_any (λ x. x == l.v) l.seen
