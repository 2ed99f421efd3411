use Rattle.std.proofs.Common.{◌≡◌, ◌≤◌, ◌+◌, length, false}
use Rattle.sparql_meaning.specs.Cut.{size, cut_from}
use Rattle.sparql_tokens.specs.Nameless.{IsEnd}
use Rattle.sparql_tokens.proofs.cutting.after_blanks.Given as goal

abbrev pub invariant-chars : goal.invariant-chars
invariant-chars l = record { same : cut_from l.comment 0 l.at l.rest ≡ cut_from false 0 l.from l.text; count : l.at + size l.rest ≡ l.from + size l.text; shorter : length l.rest ≤ length l.text; end : IsEnd l.rest l.text }

abbrev pub decreases-chars : goal.decreases-chars
decreases-chars l = length l.rest
