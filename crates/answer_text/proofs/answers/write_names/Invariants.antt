use Rattle.std.proofs.Common.{◌≡◌, ◌++◌, drop, map}
use Rattle.rel_cells.specs.Fronts.{KeepsFront}
use Rattle.query_eval_meaning.specs.AnswerText.{tabbed}
use Rattle.answer_text.specs.Names.{asked}
use Rattle.answer_text.specs.Tabs.{left_of}
use Rattle.answer_text.proofs.answers.write_names.Given as goal

abbrev pub invariant-loop-name : goal.invariant-loop-name
invariant-loop-name l = (l.initial.into.items ++ tabbed (map asked l.names) ≡ l.into.items ++ left_of l.before (map asked (drop l.name-index l.names))) × KeepsFront l.initial.into.items l.into.items
