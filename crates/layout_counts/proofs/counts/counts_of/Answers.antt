use Rattle.layout_standing_meaning.specs.Changes.{store_of}
use Rattle.layout_counts.proofs.Constants.{counts-told}
use Rattle.layout_counts.proofs.counts.counts_of.Goals as goal

pub returns : goal.returns
returns c =
    counts-told (store_of c.args.book.now c.args.sides.now) c.requires c.args.terms.now _ _ _ _ _ _ c.count.ensures.count c.direct.ensures c.entity_count.ensures c.reverse.ensures c.entity_count-2.ensures c.in_ok-constants.ensures
