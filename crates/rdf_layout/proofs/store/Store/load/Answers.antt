use Rattle.std.proofs.Common.{◌≡◌, List, subst}
use Rattle.layout_meaning.specs.Side.{Item}
use Rattle.layout_bulk_laws.specs.BulkStore.{bulk_sides}
use Rattle.layout_standing_meaning.specs.Stored.{layout_of}
use Rattle.layout_standing_meaning.specs.Changes.{store_of}
use Rattle.layout_columns_meaning.specs.Layouts.{IsLayoutFor}
use Rattle.rdf_layout.proofs.Found.{loaded-for, loaded-placed}
use Rattle.rdf_layout.proofs.store.Store.load.Goals as goal

pub returns-clause-layout : goal.returns-clause-layout
returns-clause-layout g c =
    loaded-for c.args.choice.now c.args.triples.now c.gather_all.new.book c.gather_all.new.found (layout_of (store_of c.gather_all.new.book c.in_ok-sides.sides)) c.in_ok-gather_all.ensures.gathered
    (subst (λ (xs : List Item). IsLayoutFor c.args.choice.now c.gather_all.new.book xs (layout_of (store_of c.gather_all.new.book c.in_ok-sides.sides))) c.as_slice.ensures c.in_ok-sides.ensures.layout)

pub returns-clause-placed : goal.returns-clause-placed
returns-clause-placed g c =
    loaded-placed c.args.triples.now c.gather_all.new.book c.gather_all.new.found c.in_ok-sides.sides c.in_ok-gather_all.ensures.gathered
    (subst (λ (xs : List Item). c.in_ok-sides.sides ≡ bulk_sides (layout_of (store_of c.gather_all.new.book c.in_ok-sides.sides)) c.gather_all.new.book xs) c.as_slice.ensures c.in_ok-sides.ensures.sides)

pub returns-clause-one_row : goal.returns-clause-one_row
returns-clause-one_row g c = c.in_ok-sides.ensures.one_row
