use Rattle.std.proofs.Common.{◌≡◌, ◌-◌, ℕ, map, take}
use Rattle.bags.specs.Bag.{total}
use Rattle.layout_meaning.specs.Sound.{has_pred}
use Rattle.primary_rows.specs.Cells.{pair_of}
use Rattle.primary_rows.specs.Counted.{count_in}
use Rattle.primary_rows.proofs.table.lower_first.Given as goal

abbrev pub invariant-loop-pair : goal.invariant-loop-pair
invariant-loop-pair l = (q : ℕ) → count_in l.spilled q ≡ count_in l.fn.spilled q - total (has_pred q) (map pair_of (take l.pair-index l.pair-items))
