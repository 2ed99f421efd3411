use Rattle.std.proofs.Common.{◌≡◌, ◌≤◌, [], length, take, drop}
use Rattle.rdf_layout.specs.Bulk.{refusal_from}
use Rattle.rdf_layout.specs.Gathered.{Gathers}
use Rattle.rdf_layout.proofs.gathering.gather_all.Given as goal

abbrev pub invariant-loop-t : goal.invariant-loop-t
invariant-loop-t l =
    Gathers (take l.t-index l.triples) l.book l.found × (length l.book ≤ 4000000) × (refusal_from [] l.triples ≡ refusal_from (take l.t-index l.triples) (drop l.t-index l.triples))
