-- When a store refuses a triple.
use Rattle.std.specs.Prelude.{◌≡◌, ◌⊎◌, ◌+◌, ◌^◌, ◌≤◌, ◌<◌, Bool, false, if◌then◌else◌, length}
use Rattle.rdf_meaning.specs.Terms.{RdfTriple}
use Rattle.primary_rows.specs.declared.side.SideRefusal.{SideRefusal}
use Rattle.primary_rows.specs.declared.side.SideRefusal.TheVariants as of
use Rattle.term_book.specs.declared.refusal.BookRefusal.{BookRefusal}
use Rattle.term_book.specs.declared.refusal.BookRefusal.TheVariants as book
use Rattle.layout_standing_meaning.specs.Stored.{StoreOf, stored_triples}
use Rattle.layout_standing_meaning.specs.Changes.{with_terms, is_stored, stored_in}
use Rattle.rdf_layout.specs.declared.refusal.StoreRefusal.{StoreRefusal}
use Rattle.rdf_layout.specs.declared.refusal.StoreRefusal.TheVariants.{Triples, Terms, Lists, NoMemory}

abbrev pub of_side : SideRefusal → StoreRefusal
of_side of.ListsFull = Lists
of_side of.NoMemory = NoMemory

-- a dictionary is full: triples go before terms
abbrev pub of_book : BookRefusal → Bool → StoreRefusal
of_book book.NoMemory full = NoMemory
of_book book.Full full = if full then Triples else Terms

-- 1,000,000 triples are stored
abbrev pub IsFull : StoreOf → Type 0
IsFull s = 1000000 ≤ length (stored_triples s)

-- with the terms of the triple the dictionary would pass 4,000,000
abbrev pub PassesTerms : StoreOf → RdfTriple → Type 0
PassesTerms s t = 4000000 < length (with_terms s.terms t)

-- a side would need a list after the last list id was given out
abbrev pub PassesLists : StoreOf → RdfTriple → Type 0
PassesLists s t = ((stored_in s t).direct.state.next ≡ 2 ^ 62 + 1) ⊎ ((stored_in s t).reverse.state.next ≡ 2 ^ 62 + 1)

-- The triple isn't stored. Triples go before terms, and terms before lists. Want of memory is free.
abbrev pub Refuses : StoreRefusal → StoreOf → RdfTriple → Type 0
Refuses Triples s t = (is_stored s t ≡ false) × IsFull s
Refuses Terms s t = (is_stored s t ≡ false) × (length (stored_triples s) < 1000000) × PassesTerms s t
Refuses Lists s t = (is_stored s t ≡ false) × (length (stored_triples s) < 1000000) × (length (with_terms s.terms t) ≤ 4000000) × PassesLists s t
Refuses NoMemory s t = Unit {0}

-- no refusal of a triple applies
pub record HasRoom (s : StoreOf) (t : RdfTriple) : Type 0 where
  pub triples : length (stored_triples s) < 1000000
  pub terms : length (with_terms s.terms t) ≤ 4000000
  pub direct : (stored_in s t).direct.state.next ≤ 2 ^ 62
  pub reverse : (stored_in s t).reverse.state.next ≤ 2 ^ 62
