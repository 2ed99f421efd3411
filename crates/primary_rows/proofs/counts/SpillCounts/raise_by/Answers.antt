use Rattle.std.proofs.Common.{◌<◌, ℕ, arith}
use Rattle.layout_meaning.proofs.RowsKept.{All-insert}
use Rattle.primary_rows.proofs.counts.SpillCounts.raise_by.Goals as goal

pub invariant_of-self-2 : goal.invariant_of-self-2
invariant_of-self-2 c = rw c.in-Ok.ensures.entries (All-insert (λ (n : ℕ). 0 < n) c.args.pred c.in-Some.more c.self.inside.counts.entries (omega arith) c.self.invariant)
