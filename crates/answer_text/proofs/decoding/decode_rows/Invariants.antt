use Rattle.std.proofs.Common.{drop, map}
use Rattle.std.specs.Prelude.{vec_items}
use Rattle.answer_text.proofs.Places.{RowsLeft}
use Rattle.answer_text.proofs.decoding.decode_rows.Given as goal

abbrev pub invariant-loop-row : goal.invariant-loop-row
invariant-loop-row l = RowsLeft l.rows (map vec_items l.answers.items) (drop l.row-index l.rows)
