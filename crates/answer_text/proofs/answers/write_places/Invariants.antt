use Rattle.std.proofs.Common.{◌≡◌, ◌++◌, drop, map}
use Rattle.rel_cells.specs.Fronts.{KeepsFront}
use Rattle.query_eval_meaning.specs.AnswerText.{tabbed, place_text}
use Rattle.answer_text.specs.Tabs.{left_of}
use Rattle.answer_text.proofs.answers.write_places.Given as goal

abbrev pub invariant-loop-place : goal.invariant-loop-place
invariant-loop-place l = (l.initial.into.items ++ tabbed (map place_text l.places) ≡ l.into.items ++ left_of l.before (map place_text (drop l.place-index l.places))) × KeepsFront l.initial.into.items l.into.items
