-- What a change needs of a store, and what is held after it.
use Rattle.std.specs.Prelude.{◌+◌, ◌<◌, ◌^◌, nat_lt, if◌then◌else◌, ◌∷◌, length, Option, Some, None}
use Rattle.bags.specs.Bag.{SameBag}
use Rattle.line_change_meaning.specs.declared.change.Change.{Change}
use Rattle.line_change_meaning.specs.declared.change.Change.TheVariants.{Add, Delete}
use Rattle.layout_standing_meaning.specs.Stored.{StoreOf, stored_triples}
use Rattle.layout_standing_meaning.specs.Changes.{with_terms, is_stored}
use Rattle.run_meaning.specs.declared.which.Which.{Which}
use Rattle.run_meaning.specs.declared.which.Which.TheVariants.{Terms, Triples}

-- a list id is left on each side
pub record LeavesIds (s : StoreOf) : Type 0 where
  pub direct : s.direct.state.next < 2 ^ 62
  pub reverse : s.reverse.state.next < 2 ^ 62

-- the limit that a change passes: triples go before terms
abbrev pub limit_at : StoreOf → Change → Option Which
limit_at s (Delete t) = None
limit_at s (Add t) =
    if is_stored s t then None
    else (if nat_lt 1000000 (length (stored_triples s) + 1) then Some Triples
    else (if nat_lt 4000000 (length (with_terms s.terms t)) then Some Terms else None))

-- what a store holds after a change of another
abbrev pub HoldsAfter : StoreOf → Change → StoreOf → Type 0
HoldsAfter old (Add t) new = SameBag (stored_triples new) (if is_stored old t then stored_triples old else t ∷ stored_triples old)
HoldsAfter old (Delete t) new = SameBag (if is_stored old t then t ∷ stored_triples new else stored_triples new) (stored_triples old)
