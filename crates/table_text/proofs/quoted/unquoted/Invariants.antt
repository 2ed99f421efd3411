use Rattle.std.proofs.Common.{◌≡◌, length}
use Rattle.table_text.specs.Reading.{before, unquoted}
use Rattle.table_text.proofs.quoted.unquoted.Given as goal

abbrev pub invariant-bytes : goal.invariant-bytes
invariant-bytes l = before l.text.items (unquoted l.rest) ≡ unquoted l.bytes

abbrev pub decreases-bytes : goal.decreases-bytes
decreases-bytes l = length l.rest
