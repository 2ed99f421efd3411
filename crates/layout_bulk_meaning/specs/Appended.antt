-- Sides one behind the other: this project's own.
use Rattle.std.specs.Prelude.{◌≡◌, ℕ, ◌+◌, List, [], ◌∷◌, ◌++◌, Option, Some, None}
use Rattle.std.specs.List.{flat_map, fold, AllByRecursion}
use Rattle.std.specs.declared.cmp.Ordering.TheVariants.{Less}
use Rattle.std.specs.Ordering.{nat_cmp}
use Rattle.std.specs.Map.{keys_of}
use Rattle.bags.specs.Bag.{total}
use Rattle.layout_meaning.specs.declared.value.Value.{Value}
use Rattle.layout_meaning.specs.declared.value.Value.TheVariants.{One, Many}
use Rattle.layout_meaning.specs.Side.{Pair, Row, Rows, Entities, ValueLists, SideState, elements_of}
use Rattle.layout_meaning.specs.Lists.{ListsOf, with_list}
use Rattle.layout_meaning.specs.Rows.{SideOf}

-- each is made from the number of the next list, and what follows it goes on behind its lists
abbrev pub in_turn : {X Y : Type 0} → (X → ℕ) → (ℕ → X → Y) → ℕ → List X → List Y
in_turn lists_in f n [] = []
in_turn lists_in f n (x ∷ xs) = f n x ∷ in_turn lists_in f (n + lists_in x) xs

-- how many lists a pair names: one or none
abbrev pub lists_in_value : Value → ℕ
lists_in_value (One v) = 0
lists_in_value (Many m) = 1

abbrev pub lists_in : Option Pair → ℕ
lists_in None = 0
lists_in (Some q) = lists_in_value q.value

-- a list's number becomes another
abbrev pub given_value : ℕ → Value → Value
given_value n (One v) = One v
given_value n (Many m) = Many n

abbrev pub given_pair : ℕ → Option Pair → Option Pair
given_pair n None = None
given_pair n (Some q) = Some (record { pred = q.pred; value = given_value n q.value })

-- the numbers from n on in place of those of lists, by row number and column
abbrev pub given_row : ℕ → Row → Row
given_row = in_turn lists_in given_pair

abbrev pub given_rows : ℕ → Rows → Rows
given_rows = in_turn (total lists_in) given_row

abbrev pub lists_in_rows : Rows → ℕ
lists_in_rows = total (total lists_in)

-- the same by rising entity
abbrev pub given_entity : ℕ → ℕ × Rows → ℕ × Rows
given_entity n en = (en.0, given_rows n en.1)

abbrev pub given_entities : ℕ → Entities → Entities
given_entities = in_turn (λ (en : ℕ × Rows). lists_in_rows en.1) given_entity

-- the lists that are named, in that order, each by its elements
abbrev pub named_by_value : ValueLists → Value → List (List ℕ)
named_by_value lists (One v) = []
named_by_value lists (Many m) = elements_of lists m ∷ []

abbrev pub named_by : ValueLists → Option Pair → List (List ℕ)
named_by lists None = []
named_by lists (Some q) = named_by_value lists q.value

abbrev pub named_in_rows : ValueLists → Rows → List (List ℕ)
named_in_rows lists rs = flat_map (flat_map (named_by lists)) rs

abbrev pub named_lists : ValueLists → Entities → List (List ℕ)
named_lists lists ents = flat_map (λ (en : ℕ × Rows). named_in_rows lists en.1) ents

-- lists and further ones under the next numbers
abbrev pub with_lists : ListsOf → List (List ℕ) → ListsOf
with_lists l xss = fold with_list l xss

abbrev pub lists_of : SideState → ListsOf
lists_of s = record { lists = s.lists; next = s.next }

-- a side and a later one behind it: the later rows are as they are, but their lists have the next numbers of
-- the first side, by rising entity, row number and column
abbrev pub appended : SideState → SideState → SideState
appended s t = record {
  entities = s.entities ++ given_entities s.next t.entities;
  lists = (with_lists (lists_of s) (named_lists t.lists t.entities)).lists;
  next = (with_lists (lists_of s) (named_lists t.lists t.entities)).next;
}

abbrev pub appended_side : SideOf → SideOf → SideOf
appended_side s t = record { columns = s.columns; state = appended s.state t.state }

-- each later entity is above each of the first
abbrev pub IsAbove : Entities → Entities → Type 0
IsAbove first later = AllByRecursion (λ e. AllByRecursion (λ f. nat_cmp e f ≡ Less) (keys_of later)) (keys_of first)
