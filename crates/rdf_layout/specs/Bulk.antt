-- Triples that are put in one after another: what a store of them holds, and the first one that is refused (this project's own).
use Rattle.std.specs.Prelude.{◌≡◌, ◌≤◌, nat_le, nat_lt, if◌then◌else◌, List, [], ◌∷◌, ◌++◌, fold, length, Option, Some, None}
use Rattle.std.specs.List.{list_any}
use Rattle.std.specs.Option.{option_or}
use Rattle.bags.specs.Bag.{SameBag}
use Rattle.rdf_meaning.specs.Terms.{RdfTriple, same_triple}
use Rattle.layout_standing_meaning.specs.Schemas.{LayoutOf}
use Rattle.layout_standing_meaning.specs.Sides.{SidesOf}
use Rattle.layout_standing_meaning.specs.Stored.{StoreOf, IsStore, sides_of, stored_triples}
use Rattle.layout_standing_meaning.specs.Changes.{with_terms, stored_in, store_of}
use Rattle.layout_list_laws.specs.InOrder.{AreInOrder}
use Rattle.layout_bulk_laws.specs.BulkStore.{each_once, terms_of}
use Rattle.layout_bulk_meaning.specs.Bulk.{empty_side}
use Rattle.rdf_layout.specs.declared.refusal.StoreRefusal.{StoreRefusal}
use Rattle.rdf_layout.specs.declared.refusal.StoreRefusal.TheVariants.{Triples, Terms}

-- two sides without rows
abbrev pub empty_sides : LayoutOf → SidesOf
empty_sides layout = record { direct = empty_side layout.direct; reverse = empty_side layout.reverse }

-- a store without triples
abbrev pub empty_store : LayoutOf → StoreOf
empty_store layout = store_of [] (empty_sides layout)

-- a store after triples were put in one after another
abbrev pub put_in_turn : StoreOf → List RdfTriple → StoreOf
put_in_turn start triples = fold stored_in start triples

-- the refusal of a triple behind others: it is new and 1,000,000 others are there, or else its terms would pass 4,000,000
abbrev pub refusal_behind : List RdfTriple → RdfTriple → Option StoreRefusal
refusal_behind seen t =
    if list_any (same_triple t) (each_once seen) then None
    else if nat_le 1000000 (length (each_once seen)) then Some Triples
    else if nat_lt 4000000 (length (with_terms (terms_of seen) t)) then Some Terms
    else None

-- the first refusal of triples behind others
abbrev pub refusal_from : List RdfTriple → List RdfTriple → Option StoreRefusal
refusal_from seen [] = None
refusal_from seen (t ∷ later) = option_or (refusal_behind seen t) (refusal_from (seen ++ t ∷ []) later)

-- a store into which these triples were put, none of them refused: a list id at most for each triple that is stored
pub record ArePutInTurn (start : StoreOf) (seen : List RdfTriple) (s : StoreOf) : Type 0 where
  pub store : IsStore s
  pub placed : s ≡ put_in_turn start seen
  pub triples : SameBag (stored_triples s) (each_once seen)
  pub terms : s.terms ≡ terms_of seen
  pub few : length (stored_triples s) ≤ 1000000
  pub direct_columns : s.direct.columns ≡ start.direct.columns
  pub reverse_columns : s.reverse.columns ≡ start.reverse.columns
  pub direct_ids : s.direct.state.next ≤ length (stored_triples s)
  pub reverse_ids : s.reverse.state.next ≤ length (stored_triples s)
  pub in_order : AreInOrder (sides_of s)
