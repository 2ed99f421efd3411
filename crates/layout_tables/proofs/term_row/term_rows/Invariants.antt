use Rattle.std.proofs.Common.{◌≡◌, take}
use Rattle.layout_standing_meaning.specs.Dictionary.{numbered_from}
use Rattle.layout_tables.proofs.term_row.term_rows.Given as goal

abbrev pub invariant-loop-at : goal.invariant-loop-at
invariant-loop-at l = l.rows.items ≡ numbered_from 1 (take l.at l.book)
