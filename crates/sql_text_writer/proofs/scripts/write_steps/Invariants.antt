use Rattle.std.proofs.Common.{◌≡◌, ◌++◌, drop, map}
use Rattle.rel_cells.specs.Fronts.{KeepsFront}
use Rattle.sql_text_spelling_laws.specs.Pieces.{joined, step_piece}
use Rattle.sql_text_writer.specs.Lists.{left_of}
use Rattle.sql_text_writer.proofs.scripts.write_steps.Given as goal

abbrev pub invariant-loop-step : goal.invariant-loop-step
invariant-loop-step l =
    (l.initial.into.items ++ joined l.separator (map step_piece l.steps) ≡ l.into.items ++ left_of l.before l.separator (map step_piece (drop l.step-index l.steps))) × KeepsFront l.initial.into.items l.into.items
