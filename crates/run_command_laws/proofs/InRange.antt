-- Options that are read lie in their ranges.
use Rattle.std.proofs.Common.{◌≡◌, List}
use Rattle.std.specs.Prelude.{Some}
use Rattle.run_meaning.specs.declared.command.Command.{Command}
use Rattle.run_meaning.specs.declared.command.Command.TheVariants.{Query, Show, Plan, Stats, Exec, Drill}
use Rattle.run_meaning.specs.Ranges.{IsInRange}
use Rattle.run_meaning.specs.Words.{Word, command_of}
use Rattle.run_meaning.specs.Spelling.{Spells}
use Rattle.run_command_laws.proofs.Spelled.{read_is_spelled}

spelled_in_range : (words : List Word) (command : Command) → Spells words command → IsInRange command
spelled_in_range words (Query options files last) s = s.0.chosen.ranges
spelled_in_range words (Show options files last) s = s.0.chosen.ranges
spelled_in_range words (Plan options files last) s = s.0.chosen.ranges
spelled_in_range words (Stats options files) s = s.0.chosen.ranges
spelled_in_range words (Exec pieces file) s = s.1
spelled_in_range words (Drill options count seed) s = s.0.chosen.ranges

pub in-range : (words : List Word) (command : Command) → command_of words ≡ Some command → IsInRange command
in-range words command e = spelled_in_range words command (read_is_spelled words command e)
