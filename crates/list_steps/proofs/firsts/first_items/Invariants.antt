use Rattle.std.proofs.Common.{◌≡◌, []}
use Rattle.bags.specs.Sort.{firsts}
use Rattle.list_steps.proofs.firsts.first_items.Given as goal

abbrev pub invariant-items : goal.invariant-items
invariant-items g l = l.kept ≡ firsts g.T.PartialEq.eq [] l.yielded
