use Rattle.std.proofs.Common.{◌≡◌, ◌++◌, drop, map}
use Rattle.std.specs.Prelude.{vec_items}
use Rattle.std.specs.List.{flat_map}
use Rattle.rel_cells.specs.Fronts.{KeepsFront}
use Rattle.query_eval_meaning.specs.AnswerText.{row_text}
use Rattle.answer_text.proofs.answers.write_rows.Given as goal

abbrev pub invariant-loop-row : goal.invariant-loop-row
invariant-loop-row l = (l.initial.into.items ++ flat_map row_text (map vec_items l.rows) ≡ l.into.items ++ flat_map row_text (map vec_items (drop l.row-index l.rows))) × KeepsFront l.initial.into.items l.into.items
