use Rattle.std.proofs.Common.{◌≡◌, take, map}
use Rattle.layout_standing_meaning.specs.Stored.{stored_triples}
use Rattle.layout_standing_meaning.specs.Changes.{store_of}
use Rattle.layout_counts_meaning.specs.Counts.{count_of}
use Rattle.layout_counts.proofs.counts.counts_of_each.Given as goal

abbrev pub invariant-loop-at : goal.invariant-loop-at
invariant-loop-at l = l.counts.items ≡ map (count_of (stored_triples (store_of l.book l.sides))) (take l.at l.terms)
