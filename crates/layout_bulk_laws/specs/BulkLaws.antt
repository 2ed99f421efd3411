-- What holds of bulks.
use Rattle.std.specs.Prelude.{List}
use Rattle.bags.specs.Bag.{SameBag}
use Rattle.rdf_meaning.specs.Terms.{RdfTerm}
use Rattle.layout_meaning.specs.Side.{Item, items}
use Rattle.layout_standing_meaning.specs.Schemas.{LayoutOf}
use Rattle.layout_standing_meaning.specs.Stored.{StoreOf, IsStore, stored_triples}
use Rattle.layout_standing_meaning.specs.Changes.{store_of}
use Rattle.layout_list_laws.specs.InOrder.{AreInOrder}
use Rattle.layout_bulk_laws.specs.BulkStore.{bulk_sides, HaveCandidates}

-- a bulk of what a store holds makes a store
abbrev pub BulksAreStores : Type 0
BulksAreStores =
    (layout : LayoutOf) (s : StoreOf) (xs : List Item) → HaveCandidates layout.direct → HaveCandidates layout.reverse → IsStore s → SameBag xs (items s.direct.state)
    → IsStore (store_of s.terms (bulk_sides layout s.terms xs))

-- of the same triples
abbrev pub BulksHoldTheirItems : Type 0
BulksHoldTheirItems =
    (layout : LayoutOf) (s : StoreOf) (xs : List Item) → HaveCandidates layout.direct → HaveCandidates layout.reverse → IsStore s → SameBag xs (items s.direct.state)
    → SameBag (stored_triples (store_of s.terms (bulk_sides layout s.terms xs))) (stored_triples s)

-- whose lists stand by falling id
abbrev pub BulksAreInOrder : Type 0
BulksAreInOrder = (layout : LayoutOf) (terms : List RdfTerm) (xs : List Item) → AreInOrder (bulk_sides layout terms xs)
