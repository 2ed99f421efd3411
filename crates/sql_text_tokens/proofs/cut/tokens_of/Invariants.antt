use Rattle.std.proofs.Common.{◌≤◌, ◌-◌, length}
use Rattle.sql_text_tokens.specs.Pieces.{SoFar}
use Rattle.sql_text_tokens.proofs.cut.tokens_of.Given as goal

abbrev pub invariant-loop-at : goal.invariant-loop-at
invariant-loop-at l = SoFar l.bytes l.at l.joined l.tokens × (l.at ≤ length l.bytes)

abbrev pub decreases-loop-at : goal.decreases-loop-at
decreases-loop-at l = length l.bytes - l.at
