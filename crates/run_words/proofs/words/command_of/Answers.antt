use Rattle.std.proofs.Common.{map, string_bytes}
use Rattle.run_command_laws.proofs.Spelled.{answer_told}
use Rattle.run_words.proofs.words.command_of.Goals as goal

pub returns-clause-spelled : goal.returns-clause-spelled
returns-clause-spelled c = answer_told (map string_bytes c.args.words.now) c.read_words.result c.read_words.ensures
