use Rattle.std.proofs.Common.{◌≡◌, fold}
use Rattle.std.specs.Vec.Iter.{into_iter_items}
use Rattle.rdf_triples.specs.Taking.{nothing_held, take_change, limit_from}
use Rattle.rdf_triples.proofs.triples.take_all.Given as goal

abbrev pub invariant-changes : goal.invariant-changes
invariant-changes l =
    (fold take_change l.held (into_iter_items l.change-iterator) ≡ fold take_change nothing_held l.fn.changes.items)
    × (limit_from l.held (into_iter_items l.change-iterator) ≡ limit_from nothing_held l.fn.changes.items)
