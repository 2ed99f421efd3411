use Rattle.std.proofs.Common.{◌≡◌, take}
use Rattle.pred_columns.proofs.columns.copied.Given as goal

abbrev pub invariant-loop-at : goal.invariant-loop-at
invariant-loop-at l = l.copy.entries ≡ take l.at l.known.entries
