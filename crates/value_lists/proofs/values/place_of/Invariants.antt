use Rattle.std.proofs.Common.{◌≡◌, ◌≤◌, nat_eq, true, take, length}
use Rattle.std.specs.List.{list_any}
use Rattle.value_lists.proofs.values.place_of.Given as goal

abbrev pub invariant-loop-end : goal.invariant-loop-end
invariant-loop-end l = record {
  within : l.end ≤ length l.items;
  front : list_any (nat_eq l.value) (take l.end l.items) ≡ true;
}

abbrev pub decreases-loop-end : goal.decreases-loop-end
decreases-loop-end l = l.end
