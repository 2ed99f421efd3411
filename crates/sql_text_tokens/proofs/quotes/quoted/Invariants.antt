use Rattle.std.proofs.Common.{◌≤◌, ◌-◌, length}
use Rattle.sql_text_tokens.specs.Quotes.{IsAt}
use Rattle.sql_text_tokens.proofs.quotes.quoted.Given as goal

abbrev pub invariant-loop-at : goal.invariant-loop-at
invariant-loop-at l = IsAt l.bytes l.content.items l.after_quote l.at × (l.at ≤ length l.bytes)

abbrev pub decreases-loop-at : goal.decreases-loop-at
decreases-loop-at l = length l.bytes - l.at
