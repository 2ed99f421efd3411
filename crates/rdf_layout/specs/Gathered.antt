-- The items that are gathered of triples, each once, over a dictionary (this project's own).
use Rattle.std.specs.Prelude.{◌≡◌, ◌≤◌, ◌<◌, ◌==◌, ◌&&◌, Bool, false, if◌then◌else◌, List, [], ◌∷◌, ◌++◌, map, length}
use Rattle.std.specs.List.{list_any}
use Rattle.bags.specs.Bag.{SameBag}
use Rattle.rdf_meaning.specs.Terms.{RdfTerm, RdfTriple}
use Rattle.layout_meaning.specs.Side.{Item, items}
use Rattle.layout_standing_meaning.specs.Stored.{StoreOf, IsStore, triple_by, stored_triples}
use Rattle.layout_standing_meaning.specs.Changes.{with_terms, item_in, is_stored}
use Rattle.layout_bulk_laws.specs.BulkStore.{each_once}
use Rattle.shredder.specs.declared.bulk.Placed.{Placed}
use Rattle.rdf_layout.specs.Bulk.{ArePutInTurn}

abbrev pub is_item : Item → Item → Bool
is_item y x = y.entity == x.entity && (y.pred == x.pred && y.value == x.value)

-- whether an item is among others
abbrev pub is_among : List Item → Item → Bool
is_among xs x = list_any (λ (y : Item). is_item y x) xs

-- entity and value change round
abbrev pub turned_placed : Placed → Placed
turned_placed p = record { entity = p.value; pred = p.pred; value = p.entity }

-- the items are those of a store with these terms
pub record AreItemsOf (s : StoreOf) (terms : List RdfTerm) (xs : List Item) : Type 0 where
  pub good : IsStore s
  pub same_terms : terms ≡ s.terms
  pub same_items : SameBag xs (items s.direct.state)

-- they are those of some store
pub record AreStored (terms : List RdfTerm) (xs : List Item) : Type 0 where
  pub store : StoreOf
  pub held : AreItemsOf store terms xs

-- what is found after one more triple
abbrev pub with_found : StoreOf → RdfTriple → List Item → List Item
with_found s t xs = if is_stored s t then xs else xs ++ item_in (with_terms s.terms t) t ∷ []

-- there is room for a triple that is new
abbrev pub HasSpace : StoreOf → RdfTriple → Type 0
HasSpace s t = is_stored s t ≡ false → (length (stored_triples s) < 1000000) × (length (with_terms s.terms t) ≤ 4000000)

-- what was gathered of these triples: the items of a store of them, in the order in which they came
pub record Gathers (seen : List RdfTriple) (terms : List RdfTerm) (xs : List Item) : Type 0 where
  pub start : StoreOf
  pub store : StoreOf
  pub put : ArePutInTurn start seen store
  pub same_terms : terms ≡ store.terms
  pub same_items : SameBag xs (items store.direct.state)
  pub order : map (triple_by terms) xs ≡ each_once seen
