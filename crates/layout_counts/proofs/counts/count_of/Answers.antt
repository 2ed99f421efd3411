use Rattle.layout_standing_meaning.specs.Changes.{store_of}
use Rattle.layout_counts.proofs.Constants.{count-told}
use Rattle.layout_counts.proofs.counts.count_of.Goals as goal

pub returns : goal.returns
returns c =
    count-told (store_of c.args.book.now c.args.sides.now) c.requires c.args.t.now _ _ _ _ _ _ c.in_ok-copy.ensures c.id_of-id.ensures c.direct.ensures c.values_of.ensures c.reverse.ensures c.values_of-2.ensures
