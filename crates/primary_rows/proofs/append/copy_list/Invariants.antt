use Rattle.std.proofs.Common.{◌≡◌, take}
use Rattle.layout_meaning.specs.Lists.{with_list}
use Rattle.primary_rows.proofs.append.copy_list.Given as goal

abbrev pub invariant-loop-at : goal.invariant-loop-at
invariant-loop-at l = l.to ≡ with_list l.fn.to (take l.at l.values)
