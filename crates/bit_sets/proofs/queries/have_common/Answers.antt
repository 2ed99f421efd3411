use Rattle.std.proofs.Common.{◌∙◌}
use Rattle.bit_sets.specs.Blocks.{numbers_in}
use Rattle.bit_sets.proofs.Shared.{met_turned}
use Rattle.bit_sets.proofs.queries.have_common.Goals as goal

pub returns-else-words-others : goal.returns-else-words-others
returns-else-words-others c = c.any_in-else-words-others.ensures ∙ met_turned (numbers_in c.args.others.now) (numbers_in c.args.words.now)
