use Rattle.std.proofs.Common.{◌≡◌, ◌∙◌, Bool, map, List, sym, subst}
use Rattle.std.specs.List.{AllByRecursion}
use Rattle.layout_meaning.specs.Side.{Item}
use Rattle.layout_standing_meaning.specs.Stored.{IsIdIn, IsStore, layout_of, triple_by, stored_triples, text_of_id}
use Rattle.shredder.specs.declared.bulk.Placed.{Placed}
use Rattle.shredder.specs.Items.{item_of}
use Rattle.layout_columns_meaning.specs.BulkColours.{AreColumnsFor}
use Rattle.rdf_layout.specs.OneRow.{ColouredHaveOneRow}
use Rattle.rdf_layout.proofs.OneRow.{one-row}
use Rattle.bags.specs.Bag.{SameBag}
use Rattle.layout_list_laws.specs.InOrder.{AreInOrder}
use Rattle.layout_standing_meaning.specs.Sides.{SidesOf}
use Rattle.layout_standing_meaning.specs.Changes.{store_of}
use Rattle.layout_bulk_laws.specs.BulkStore.{bulk_sides}
use Rattle.layout_columns_meaning.specs.Layouts.{IsLayoutFor}
use Rattle.rdf_layout.proofs.Found.{direct-ids, reverse-ids, made-sides, made-layout}
use Rattle.rdf_layout.proofs.bulk.sides_of.Goals as goal

pub side_of-requires-clause-preds : goal.side_of-requires-clause-preds
side_of-requires-clause-preds g c κs within = direct-ids c.args.book.now c.args.placed.now c.requires.stored

pub side_of-requires-2-clause-preds : goal.side_of-requires-2-clause-preds
side_of-requires-2-clause-preds g c κs within =
    subst (λ (qs : List Placed). AllByRecursion (λ (x : Item). IsIdIn c.args.book.now x.pred) (map item_of qs)) (sym (c.as_slice.ensures.value ∙ c.in_ok-placed.ensures)) (reverse-ids c.args.book.now c.args.placed.now c.requires.stored)

pub of-requires : goal.of-requires
of-requires g c =
    (made-sides c.args.book.now c.args.placed.now c.as_slice.result.now c.in_ok-direct.direct c.in_ok-reverse.reverse c.bulks_are_stores.ensures.store c.bulks_are_stores.ensures.triples c.bulks_are_stores.ensures.in_order
    c.requires.stored (c.as_slice.ensures.value ∙ c.in_ok-placed.ensures) c.in_ok-direct.ensures.side c.in_ok-reverse.ensures.side c.in_ok-direct.ensures.some c.in_ok-reverse.ensures.some).store.sides

pub returns-clause-layout : goal.returns-clause-layout
returns-clause-layout g c =
    subst (λ (s : SidesOf). IsLayoutFor c.args.choice.now c.args.book.now (map item_of c.args.placed.now) (layout_of (store_of c.args.book.now s))) (sym c.of.ensures)
    (made-layout c.args.choice.now c.args.book.now c.args.placed.now c.as_slice.result.now c.in_ok-direct.direct c.in_ok-reverse.reverse c.is_greedy-greedy.result c.direct.result.now c.reverse.result.now
    c.is_greedy-greedy.ensures c.direct.ensures c.reverse.ensures (c.as_slice.ensures.value ∙ c.in_ok-placed.ensures) c.in_ok-direct.ensures.columns c.in_ok-reverse.ensures.columns)

pub returns-clause-sides : goal.returns-clause-sides
returns-clause-sides g c =
    subst (λ (s : SidesOf). s ≡ bulk_sides (layout_of (store_of c.args.book.now s)) c.args.book.now (map item_of c.args.placed.now)) (sym c.of.ensures)
    (made-sides c.args.book.now c.args.placed.now c.as_slice.result.now c.in_ok-direct.direct c.in_ok-reverse.reverse c.bulks_are_stores.ensures.store c.bulks_are_stores.ensures.triples c.bulks_are_stores.ensures.in_order
    c.requires.stored (c.as_slice.ensures.value ∙ c.in_ok-placed.ensures) c.in_ok-direct.ensures.side c.in_ok-reverse.ensures.side c.in_ok-direct.ensures.some c.in_ok-reverse.ensures.some).made

pub returns-clause-store : goal.returns-clause-store
returns-clause-store g c =
    subst (λ (s : SidesOf). IsStore (store_of c.args.book.now s)) (sym c.of.ensures)
    (made-sides c.args.book.now c.args.placed.now c.as_slice.result.now c.in_ok-direct.direct c.in_ok-reverse.reverse c.bulks_are_stores.ensures.store c.bulks_are_stores.ensures.triples c.bulks_are_stores.ensures.in_order
    c.requires.stored (c.as_slice.ensures.value ∙ c.in_ok-placed.ensures) c.in_ok-direct.ensures.side c.in_ok-reverse.ensures.side c.in_ok-direct.ensures.some c.in_ok-reverse.ensures.some).store

pub returns-clause-triples : goal.returns-clause-triples
returns-clause-triples g c =
    subst (λ (s : SidesOf). SameBag (stored_triples (store_of c.args.book.now s)) (map (triple_by c.args.book.now) (map item_of c.args.placed.now))) (sym c.of.ensures)
    (made-sides c.args.book.now c.args.placed.now c.as_slice.result.now c.in_ok-direct.direct c.in_ok-reverse.reverse c.bulks_are_stores.ensures.store c.bulks_are_stores.ensures.triples c.bulks_are_stores.ensures.in_order
    c.requires.stored (c.as_slice.ensures.value ∙ c.in_ok-placed.ensures) c.in_ok-direct.ensures.side c.in_ok-reverse.ensures.side c.in_ok-direct.ensures.some c.in_ok-reverse.ensures.some).triples

pub returns-clause-in_order : goal.returns-clause-in_order
returns-clause-in_order g c =
    subst AreInOrder (sym c.of.ensures)
    (made-sides c.args.book.now c.args.placed.now c.as_slice.result.now c.in_ok-direct.direct c.in_ok-reverse.reverse c.bulks_are_stores.ensures.store c.bulks_are_stores.ensures.triples c.bulks_are_stores.ensures.in_order
    c.requires.stored (c.as_slice.ensures.value ∙ c.in_ok-placed.ensures) c.in_ok-direct.ensures.side c.in_ok-reverse.ensures.side c.in_ok-direct.ensures.some c.in_ok-reverse.ensures.some).in_order

pub returns-clause-one_row : goal.returns-clause-one_row
returns-clause-one_row g c = λ k.
    subst (λ (s : SidesOf). ColouredHaveOneRow (store_of c.args.book.now s)) (sym c.of.ensures)
    (one-row c.coloured_entities_have_one_row.ensures c.args.book.now c.direct.result.now c.reverse.result.now c.args.placed.now c.as_slice.result.now c.in_ok-direct.direct c.in_ok-reverse.reverse c.requires.stored
    (c.as_slice.ensures.value ∙ c.in_ok-placed.ensures) c.in_ok-direct.ensures.side c.in_ok-reverse.ensures.side c.in_ok-direct.ensures.some c.in_ok-reverse.ensures.some
    (subst (λ (b : Bool). AreColumnsFor b c.direct.result.now (text_of_id c.args.book.now) (map item_of c.args.placed.now) c.in_ok-direct.direct.columns) (c.is_greedy-greedy.ensures ∙ k) c.in_ok-direct.ensures.columns)
    (subst (λ (b : Bool). AreColumnsFor b c.reverse.result.now (text_of_id c.args.book.now) (map item_of c.as_slice.result.now) c.in_ok-reverse.reverse.columns) (c.is_greedy-greedy.ensures ∙ k) c.in_ok-reverse.ensures.columns))
