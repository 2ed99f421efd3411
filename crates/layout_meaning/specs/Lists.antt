-- The lists of a side by themselves, and their steps.
use Rattle.std.specs.Prelude.{ℕ, ℤ, pos, negsuc, ◌+◌, ◌≤◌, ◌≡◌, nat_eq, if◌then◌else◌, List, [], ◌∷◌, ◌++◌}
use Rattle.std.specs.List.{list_any, AllByRecursion}
use Rattle.std.specs.Ordering.{nat_cmp}
use Rattle.std.specs.BTreeMap.{is_at, insert_entry}
use Rattle.std.specs.Map.{set_value}
use Rattle.std.specs.Set.{remove_key}
use Rattle.layout_meaning.specs.Side.{ValueLists, elements_of, left_lists}
use Rattle.layout_meaning.specs.Sound.{IsSoundList, numbered}

-- lists under their numbers, by rising number, and the number of the next list
pub record ListsOf : Type 0 where
  pub lists : ValueLists
  pub next : ℕ

-- the id of the list with this number: -1, -2, ..
abbrev pub list_id : ℕ → ℤ
list_id n = negsuc n

-- the number of the list with this id
abbrev pub number_of : ℤ → ℕ
number_of (pos n) = 0
number_of (negsuc n) = n

-- the lists with one more, under the next number
abbrev pub with_list : ListsOf → List ℕ → ListsOf
with_list l xs = record { lists = insert_entry nat_cmp l.lists l.next xs; next = l.next + 1 }

-- the list with x last, unless it is there
abbrev pub with_last : List ℕ → ℕ → List ℕ
with_last xs x = if list_any (nat_eq x) xs then xs else xs ++ x ∷ []

-- the lists with a value last in one of them, unless it is there
abbrev pub with_value : ListsOf → ℕ → ℕ → ListsOf
with_value l n x = record { lists = set_value (is_at (nat_cmp n)) l.lists (with_last (elements_of l.lists n) x); next = l.next }

-- the lists without a value of one of them; a list of two is gone
abbrev pub without_value : ListsOf → ℕ → ℕ → ListsOf
without_value l n x = record {
  lists = if list_any (nat_eq x) (elements_of l.lists n) then left_lists (remove_key (nat_eq x) (elements_of l.lists n)) n l.lists else l.lists;
  next = l.next;
}

-- what holds of all lists: each has at least two values, all distinct, and a number below the next
pub record AreLists (l : ListsOf) : Type 0 where
  pub several : AllByRecursion (λ (e : ℕ × List ℕ). IsSoundList e.1) l.lists
  pub below : (n : ℕ) → l.next ≤ n → numbered n l.lists ≡ 0
