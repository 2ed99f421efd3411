use Rattle.std.proofs.Common.{◌<◌, length}
use Rattle.sql_text_clauses.specs.Keys.{KeyLoop}
use Rattle.sql_text_clauses.proofs.keys.read_keys.Given as goal

abbrev pub invariant-loop-after : goal.invariant-loop-after
invariant-loop-after l = KeyLoop l.fn.tokens l.keys l.rest × (length l.rest < length l.fn.tokens)

abbrev pub decreases-loop-after : goal.decreases-loop-after
decreases-loop-after l = length l.rest
