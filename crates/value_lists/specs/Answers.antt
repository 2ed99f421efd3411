-- What the calls on lists answer.
use Rattle.std.specs.Prelude.{◌≤ℤ◌, ℕ, ℤ, negsuc, nat_eq, Bool, true, false, if◌then◌else◌, IsSome, List, Option, Some, None}
use Rattle.std.specs.List.{list_any}
use Rattle.std.specs.Ordering.{nat_cmp}
use Rattle.std.specs.BTreeMap.{is_at}
use Rattle.std.specs.Map.{lookup}
use Rattle.std.specs.Set.{remove_key}
use Rattle.layout_meaning.specs.Side.{only}
use Rattle.layout_meaning.specs.Lists.{ListsOf, number_of}
use Rattle.value_lists.specs.declared.lists.Put.{Put}
use Rattle.value_lists.specs.declared.lists.Put.TheVariants.{Added, There}
use Rattle.value_lists.specs.declared.lists.TakeOut.{TakeOut}
use Rattle.value_lists.specs.declared.lists.TakeOut.TheVariants.{Absent, Left, One}

-- the list with this number is there
abbrev pub HasNumber : ListsOf → ℕ → Type 0
HasNumber l n = IsSome (lookup (is_at (nat_cmp n)) l.lists)

-- the list with this id is there
pub record HasList (l : ListsOf) (id : ℤ) : Type 0 where
  pub negative : id ≤ℤ negsuc 0
  pub there : HasNumber l (number_of id)

-- from whether the value was there
abbrev pub put_of : Bool → Put
put_of true = There
put_of false = Added

-- from the one value that stays, if one does
abbrev pub left_of : Option ℕ → TakeOut
left_of None = Left
left_of (Some x) = One x

-- from the values of the list and the one to be taken out
abbrev pub take_out_of : List ℕ → ℕ → TakeOut
take_out_of xs x = if list_any (nat_eq x) xs then left_of (only (remove_key (nat_eq x) xs)) else Absent
