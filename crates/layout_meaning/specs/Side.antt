-- One side of the tables: its rows, its lists, and what a change does to them.
use Rattle.std.specs.Prelude.{ℕ, zero, suc, ◌+◌, ◌==◌, nat_eq, Bool, true, false, if◌then◌else◌, is_some, List, [], ◌∷◌, ◌++◌, map, replicate, Option, Some, None}
use Rattle.std.specs.List.{list_any, flat_map}
use Rattle.std.specs.Ordering.{nat_cmp}
use Rattle.std.specs.BTreeMap.{is_at, insert_entry}
use Rattle.std.specs.Map.{lookup, set_value, remove_entry}
use Rattle.std.specs.Set.{remove_key}
pub use Rattle.layout_meaning.specs.declared.value.Value.{Value}
pub use Rattle.layout_meaning.specs.declared.value.Value.TheVariants.{One, Many}

-- a predicate and what stands under it
pub record Pair : Type 0 where
  pub pred : ℕ
  pub value : Value

-- an entity, a predicate and one value
pub record Item : Type 0 where
  pub entity : ℕ
  pub pred : ℕ
  pub value : ℕ

-- the pairs of a row, column by column; None where the pair is free
abbrev pub Row : Type 0
Row = List (Option Pair)

abbrev pub Rows : Type 0
Rows = List Row

-- the entities, each with its rows in order
abbrev pub Entities : Type 0
Entities = List (ℕ × Rows)

-- the elements of lists, under the lists' numbers
abbrev pub ValueLists : Type 0
ValueLists = List (ℕ × List ℕ)

-- the entities, rising, each with its rows in order; the lists under their numbers; the number of the next list
pub record SideState : Type 0 where
  pub entities : Entities
  pub lists : ValueLists
  pub next : ℕ

abbrev pub or_empty : {X : Type 0} → Option (List X) → List X
or_empty None = []
or_empty (Some xs) = xs

abbrev pub rows_of : Entities → ℕ → Rows
rows_of ents e = or_empty (lookup (is_at (nat_cmp e)) ents)

abbrev pub elements_of : ValueLists → ℕ → List ℕ
elements_of lists n = or_empty (lookup (is_at (nat_cmp n)) lists)

abbrev pub values_of : ValueLists → Value → List ℕ
values_of lists (One v) = v ∷ []
values_of lists (Many n) = elements_of lists n

-- the value of the first pair with a predicate, in a row and in rows
abbrev pub is_pred : ℕ → Option Pair → Bool
is_pred p None = false
is_pred p (Some q) = q.pred == p

abbrev pub find_in_row : ℕ → Row → Option Value
find_in_row p [] = None
find_in_row p (None ∷ r) = find_in_row p r
find_in_row p (Some q ∷ r) = if q.pred == p then Some q.value else find_in_row p r

abbrev pub or_else : Option Value → Option Value → Option Value
or_else None o = o
or_else (Some v) o = Some v

abbrev pub find : ℕ → Rows → Option Value
find p [] = None
find p (r ∷ rs) = or_else (find_in_row p r) (find p rs)

abbrev pub all_free : Row → Bool
all_free [] = true
all_free (None ∷ r) = all_free r
all_free (Some q ∷ r) = false

-- a row before others, but none where it holds nothing
abbrev pub keep : Row → Rows → Rows
keep r rs = if all_free r then rs else r ∷ rs

-- the row in which the first pair with the predicate became another
abbrev pub write_in_row : ℕ → Option Pair → Row → Row
write_in_row p new [] = []
write_in_row p new (None ∷ r) = None ∷ write_in_row p new r
write_in_row p new (Some q ∷ r) = if q.pred == p then new ∷ r else Some q ∷ write_in_row p new r

-- the same in rows; a row that became empty is dropped
abbrev pub write : ℕ → Option Pair → Rows → Rows
write p new [] = []
write p new (r ∷ rs) = if is_some (find_in_row p r) then keep (write_in_row p new r) rs else r ∷ write p new rs

abbrev pub is_none : Option Pair → Bool
is_none None = true
is_none (Some q) = false

-- whether this column of a row is there and free
abbrev pub free_at : Row → ℕ → Bool
free_at [] c = false
free_at (o ∷ r) zero = is_none o
free_at (o ∷ r) (suc c) = free_at r c

abbrev pub put_at : Row → ℕ → Option Pair → Row
put_at [] c new = []
put_at (o ∷ r) zero new = new ∷ r
put_at (o ∷ r) (suc c) new = o ∷ put_at r c new

-- the first of the columns that is free in a row
abbrev pub first_free : Row → List ℕ → Option ℕ
first_free r [] = None
first_free r (c ∷ cs) = if free_at r c then Some c else first_free r cs

abbrev pub first_of : List ℕ → ℕ
first_of [] = 0
first_of (c ∷ cs) = c

abbrev pub put_or : Option ℕ → Row → Pair → Rows → Rows → Rows
put_or None r pair rs later = r ∷ later
put_or (Some c) r pair rs later = put_at r c (Some pair) ∷ rs

-- the rows after a new pair came into the first row that has a free one of the columns, or into a new last row
abbrev pub place_new : ℕ → List ℕ → Pair → Rows → Rows
place_new k columns pair [] = put_at (replicate k None) (first_of columns) (Some pair) ∷ []
place_new k columns pair (r ∷ rs) = put_or (first_free r columns) r pair rs (place_new k columns pair rs)

-- the entities after the rows of one of them became others; an entity without rows is dropped
abbrev pub put_by : Option (Rows) → Entities → ℕ → Rows → Entities
put_by None ents e new = insert_entry nat_cmp ents e new
put_by (Some old) ents e [] = remove_entry (is_at (nat_cmp e)) ents
put_by (Some old) ents e (r ∷ rs) = set_value (is_at (nat_cmp e)) ents (r ∷ rs)

abbrev pub with_rows : Entities → ℕ → Rows → Entities
with_rows ents e new = put_by (lookup (is_at (nat_cmp e)) ents) ents e new

abbrev pub found_values : ValueLists → Option Value → List ℕ
found_values lists None = []
found_values lists (Some value) = values_of lists value

-- the values of an entity under a predicate
abbrev pub held : SideState → ℕ → ℕ → List ℕ
held s e p = found_values s.lists (find p (rows_of s.entities e))

abbrev pub is_held : Item → SideState → Bool
is_held x s = list_any (nat_eq x.value) (held s x.entity x.pred)

-- the entities of a side after the pair of an item's predicate became another
abbrev pub written : Item → Option Pair → SideState → Entities
written x new s = with_rows s.entities x.entity (write x.pred new (rows_of s.entities x.entity))

-- a side with one more item that it doesn't hold, from what stands under the item's predicate
abbrev pub place_by : Option Value → ℕ → List ℕ → Item → SideState → SideState
place_by None k columns x s = record {
  entities = with_rows s.entities x.entity (place_new k columns (record { pred = x.pred; value = One x.value }) (rows_of s.entities x.entity));
  lists = s.lists;
  next = s.next;
}
place_by (Some (One w)) k columns x s = record {
  entities = written x (Some (record { pred = x.pred; value = Many s.next })) s;
  lists = insert_entry nat_cmp s.lists s.next (w ∷ x.value ∷ []);
  next = s.next + 1;
}
place_by (Some (Many n)) k columns x s = record {
  entities = s.entities;
  lists = set_value (is_at (nat_cmp n)) s.lists (elements_of s.lists n ++ x.value ∷ []);
  next = s.next;
}

-- a side after an item was placed: k is its width, and columns are the candidates of the item's predicate
abbrev pub placed : ℕ → List ℕ → Item → SideState → SideState
placed k columns x s = if is_held x s then s else place_by (find x.pred (rows_of s.entities x.entity)) k columns x s

-- a side after one of its lists kept these values
abbrev pub left_over : List ℕ → ℕ → Item → SideState → SideState
left_over [] n x s = record { entities = s.entities; lists = set_value (is_at (nat_cmp n)) s.lists []; next = s.next }
left_over (a ∷ []) n x s = record {
  entities = written x (Some (record { pred = x.pred; value = One a })) s;
  lists = remove_entry (is_at (nat_cmp n)) s.lists;
  next = s.next;
}
left_over (a ∷ b ∷ more) n x s = record { entities = s.entities; lists = set_value (is_at (nat_cmp n)) s.lists (a ∷ b ∷ more); next = s.next }

-- the one value of a list of one
abbrev pub only : List ℕ → Option ℕ
only [] = None
only (a ∷ []) = Some a
only (a ∷ b ∷ more) = None

-- the lists after one of them kept these values
abbrev pub left_lists : List ℕ → ℕ → ValueLists → ValueLists
left_lists [] n lists = set_value (is_at (nat_cmp n)) lists []
left_lists (a ∷ []) n lists = remove_entry (is_at (nat_cmp n)) lists
left_lists (a ∷ b ∷ more) n lists = set_value (is_at (nat_cmp n)) lists (a ∷ b ∷ more)

-- a side without an item that it holds, from what stands under the item's predicate
abbrev pub take_by : Option Value → Item → SideState → SideState
take_by None x s = s
take_by (Some (One w)) x s = record { entities = written x None s; lists = s.lists; next = s.next }
take_by (Some (Many n)) x s = left_over (remove_key (nat_eq x.value) (elements_of s.lists n)) n x s

-- a side after an item was taken out
abbrev pub taken : Item → SideState → SideState
taken x s = if is_held x s then take_by (find x.pred (rows_of s.entities x.entity)) x s else s

-- the items of a side, by rising entity, row and column
abbrev pub pair_items : ValueLists → ℕ → Option Pair → List Item
pair_items lists e None = []
pair_items lists e (Some p) = map (λ v. record { entity = e; pred = p.pred; value = v }) (values_of lists p.value)

abbrev pub items : SideState → List Item
items s = flat_map (λ (en : ℕ × Rows). flat_map (flat_map (pair_items s.lists en.0)) en.1) s.entities
