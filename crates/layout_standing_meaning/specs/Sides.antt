-- The two sides of a set of triples by ids, and what a change does to them.
use Rattle.std.specs.Prelude.{◌≡◌, ℕ, ◌+◌, ◌≤◌, ◌<◌, ◌==◌, List, map, length}
use Rattle.bags.specs.Bag.{total, SameBag}
use Rattle.layout_meaning.specs.Columns.{candidates_of}
use Rattle.layout_meaning.specs.Side.{Item, Rows, Entities, first_of, items}
use Rattle.layout_meaning.specs.Sound.{one_if, IsSound}
use Rattle.layout_meaning.specs.Rows.{SideOf, placed_in, taken_from}

pub record SidesOf : Type 0 where
  pub direct : SideOf
  pub reverse : SideOf

-- an item of the direct side, as the reverse side has it
abbrev pub turned : Item → Item
turned x = record { entity = x.value; pred = x.pred; value = x.entity }

-- both sides after an item was placed whose predicate has this IRI
abbrev pub both_placed : SidesOf → List ℕ → Item → SidesOf
both_placed s iri x = record { direct = placed_in s.direct iri x; reverse = placed_in s.reverse iri (turned x) }

-- both sides after an item was taken out
abbrev pub both_taken : SidesOf → Item → SidesOf
both_taken s x = record { direct = taken_from s.direct x; reverse = taken_from s.reverse (turned x) }

-- no entity has two lists of rows
abbrev pub AreOnce : Entities → Type 0
AreOnce ents = (e : ℕ) → total (λ (en : ℕ × Rows). one_if (en.0 == e)) ents ≤ 1

-- what holds of each side
pub record IsGoodSide (s : SideOf) : Type 0 where
  pub sound : IsSound s.columns.count s.state
  pub once : AreOnce s.state.entities
  pub some : (iri : List ℕ) → 0 < length (candidates_of s.columns iri)
  pub first : (iri : List ℕ) → first_of (candidates_of s.columns iri) < s.columns.count

-- what holds of both: the reverse side holds the items of the direct side, turned
pub record AreSides (s : SidesOf) : Type 0 where
  pub direct : IsGoodSide s.direct
  pub reverse : IsGoodSide s.reverse
  pub same_items : SameBag (items s.reverse.state) (map turned (items s.direct.state))

-- as before, but for the next list ids, of which one at most was used up
pub record AreAsBefore (old new : SidesOf) : Type 0 where
  pub direct_columns : new.direct.columns ≡ old.direct.columns
  pub direct_rows : new.direct.state.entities ≡ old.direct.state.entities
  pub direct_lists : new.direct.state.lists ≡ old.direct.state.lists
  pub direct_next : old.direct.state.next ≤ new.direct.state.next
  pub one_at_most : new.direct.state.next ≤ old.direct.state.next + 1
  pub reverse : new.reverse ≡ old.reverse
