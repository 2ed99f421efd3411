use Rattle.std.proofs.Common.{◌≡◌, take}
use Rattle.layout_choice.specs.Chosen.{pairs_on}
use Rattle.layout_choice.proofs.pairs.pairs_on.Given as goal

abbrev pub invariant-loop-at : goal.invariant-loop-at
invariant-loop-at l = l.pairs.items ≡ pairs_on l.side (take l.at l.lines)
