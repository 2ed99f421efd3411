use Rattle.std.proofs.Common.{map, rules, sym, ◌∙◌}
use Rattle.std.specs.Prelude.{string_bytes}
use Rattle.run_meaning.specs.Words.{command_of}
use Rattle.run_command_laws.proofs.InRange.{in-range}
use Rattle.db2rdf_top.proofs.Jobs.{no_command}
use Rattle.db2rdf_top.proofs.program.asked_text.Goals as goal

pub perform-requires : goal.perform-requires
perform-requires g c =
    (search rules, in-range (map string_bytes c.args.words.now) c.in-Ok-Some.command (sym c.in-Ok-Some.ensures.read ∙ c.in-Ok-Some.field-0-is))

pub returns-in-Ok-None : goal.returns-in-Ok-None
returns-in-Ok-None g c = no_command (command_of (map string_bytes c.args.words.now)) (g.F.Shelf.content c.args.shelf.now) (sym c.in-Ok-None.ensures.read ∙ c.in-Ok-None.field-0-is)
