use Rattle.std.proofs.Common.{map}
use Rattle.primary_rows.specs.Views.{seen_row}
use Rattle.layout_elements.proofs.Numbers.{numbers-sorted}
use Rattle.layout_elements.proofs.in_order.list_numbers.Goals as goal

pub returns : goal.returns
returns c =
    numbers-sorted c.args.side.now.columns c.args.side.now.state (map seen_row c.args.rows.now) c.in_ok-numbers.numbers.items c.sort_unstable.new.self.items
    c.lists.ensures.sound c.requires.rising c.requires.rows c.in_ok-numbers.ensures c.sort_unstable.ensures.permutation c.sort_unstable.ensures.sorted
