use Rattle.std.proofs.Common.{◌<◌, length}
use Rattle.sql_text_clauses.specs.Rows.{ItemLoop}
use Rattle.sql_text_clauses.proofs.rows.read_items.Given as goal

abbrev pub invariant-loop-after : goal.invariant-loop-after
invariant-loop-after l = ItemLoop l.fn.tokens l.items l.rest × (length l.rest < length l.fn.tokens)

abbrev pub decreases-loop-after : goal.decreases-loop-after
decreases-loop-after l = length l.rest
