use Rattle.std.proofs.Common.{◌<◌, length}
use Rattle.sql_text_clauses.specs.Rows.{SourceLoop}
use Rattle.sql_text_clauses.proofs.rows.read_sources.Given as goal

abbrev pub invariant-joins : goal.invariant-joins
invariant-joins l = SourceLoop l.source l.fn.tokens l.joins l.rest × (length l.rest < length l.fn.tokens)

abbrev pub decreases-joins : goal.decreases-joins
decreases-joins l = length l.rest
