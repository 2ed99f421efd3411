-- What holds of the values of a list and of all lists.
use Rattle.std.specs.Prelude.{◌≡◌, ℕ, ◌≤◌, ◌<◌, ◌^◌, nat_eq, List}
use Rattle.std.specs.List.{list_any}
use Rattle.std.specs.HashSet.{HashSet, contains, hash_set_len}
use Rattle.layout_meaning.specs.Sound.{times}
use Rattle.layout_meaning.specs.Lists.{ListsOf, AreLists}

-- an index that isn't empty answers for all the values
abbrev pub IsIndexOf : {S : Type 0} → List ℕ → HashSet ℕ S → Type 0
IsIndexOf items index = (q : ℕ) → 0 < hash_set_len index → contains nat_eq index q ≡ list_any (nat_eq q) items

pub record AreValues {S : Type 0} (items : List ℕ) (index : HashSet ℕ S) : Type 0 where
  pub once : (v : ℕ) → times v items ≤ 1
  pub indexed : IsIndexOf items index

pub record AreNumbered (l : ListsOf) : Type 0 where
  pub lists : AreLists l
  pub ids : l.next ≤ 2 ^ 62
