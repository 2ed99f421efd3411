use Rattle.std.proofs.Common.{◌≡◌, drop}
use Rattle.sparql_query_meaning.specs.Queries.{once}
use Rattle.sparql_syntax.proofs.shown.note_all.Given as goal

abbrev pub invariant-loop-v : goal.invariant-loop-v
invariant-loop-v l = once l.seen (drop l.v-index l.vs) ≡ once l.fn.seen l.vs
