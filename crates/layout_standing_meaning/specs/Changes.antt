-- What a change does to a store.
use Rattle.std.specs.Prelude.{◌≡◌, ◌⊎◌, ◌+◌, Bool, if◌then◌else◌, List, [], ◌∷◌, ◌++◌}
use Rattle.std.specs.List.{list_any}
use Rattle.rdf_meaning.specs.Terms.{RdfTerm, RdfTriple, same_term, same_triple}
use Rattle.layout_meaning.specs.Side.{Item}
use Rattle.layout_standing_meaning.specs.Dictionary.{id_of, entries_of}
use Rattle.layout_standing_meaning.specs.Contents.{direct_item}
use Rattle.layout_standing_meaning.specs.Sides.{SidesOf, both_placed, both_taken, AreAsBefore}
use Rattle.layout_standing_meaning.specs.Stored.{StoreOf, sides_of, stored_triples}

-- a dictionary with one more term last, unless it is there
abbrev pub with_term : List RdfTerm → RdfTerm → List RdfTerm
with_term terms t = if list_any (same_term t) terms then terms else terms ++ t ∷ []

-- a dictionary with the terms of a triple: subject, predicate, object
abbrev pub with_terms : List RdfTerm → RdfTriple → List RdfTerm
with_terms terms t = with_term (with_term (with_term terms t.s) t.p) t.o

-- the item of a triple on the direct side
abbrev pub item_in : List RdfTerm → RdfTriple → Item
item_in terms t = direct_item (id_of (entries_of terms)) t

abbrev pub store_of : List RdfTerm → SidesOf → StoreOf
store_of terms s = record { terms = terms; direct = s.direct; reverse = s.reverse }

-- whether a triple is stored
abbrev pub is_stored : StoreOf → RdfTriple → Bool
is_stored s t = list_any (same_triple t) (stored_triples s)

-- a store after a triple was put in: new terms get the next ids, and the triple is placed on both sides
abbrev pub stored_in : StoreOf → RdfTriple → StoreOf
stored_in s t = store_of (with_terms s.terms t) (both_placed (sides_of s) t.p.text (item_in (with_terms s.terms t) t))

-- a store after a triple was taken out
abbrev pub taken_out : StoreOf → RdfTriple → StoreOf
taken_out s t = store_of s.terms (both_taken (sides_of s) (item_in s.terms t))

-- the terms of a triple that were noted before it was refused
abbrev pub AreSomeNoted : List RdfTerm → RdfTriple → List RdfTerm → Type 0
AreSomeNoted old t new = (new ≡ old) ⊎ ((new ≡ with_term old t.s) ⊎ ((new ≡ with_term (with_term old t.s) t.p) ⊎ (new ≡ with_terms old t)))

-- After a refusal the rows and lists are as before; terms of the triple may be noted, and at most one list id may be used up.
pub record IsRefused (old : StoreOf) (t : RdfTriple) (new : StoreOf) : Type 0 where
  pub terms : AreSomeNoted old.terms t new.terms
  pub sides : AreAsBefore (sides_of old) (sides_of new)
