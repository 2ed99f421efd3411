use Rattle.std.proofs.Common.{◌≡◌, ℕ, ◌+◌, map, take}
use Rattle.bags.specs.Bag.{total}
use Rattle.layout_meaning.specs.Sound.{names, times}
use Rattle.primary_rows.specs.Cells.{pair_of}
use Rattle.layout_elements.proofs.in_order.push_numbers.Given as goal

abbrev pub invariant-loop-pair : goal.invariant-loop-pair
invariant-loop-pair l = (n : ℕ) → times n l.numbers.items ≡ times n l.fn.numbers.items + total (names n) (map pair_of (take l.pair-index l.pairs))
