use Rattle.std.proofs.Common.{◌≡◌, ℕ, map, take}
use Rattle.bags.specs.Bag.{total}
use Rattle.layout_meaning.specs.Rows.{NumberedRow}
use Rattle.layout_meaning.specs.Sound.{names, times}
use Rattle.primary_rows.specs.Views.{seen_row}
use Rattle.layout_elements.proofs.in_order.numbers_in.Given as goal

abbrev pub invariant-loop-row : goal.invariant-loop-row
invariant-loop-row l = (n : ℕ) → times n l.numbers.items ≡ total (λ (r : NumberedRow). total (names n) r.pairs) (map seen_row (take l.row-index l.rows))
