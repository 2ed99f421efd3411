use Rattle.pred_colour_meaning.proofs.Made.{some_colouring}
use Rattle.pred_colour_meaning.proofs.Unique.{same_colouring}
use Rattle.pred_colour_meaning.proofs.one_colouring.Goals as goal

pub returns-clause-some : goal.returns-clause-some
returns-clause-some c = some_colouring

pub returns-clause-one : goal.returns-clause-one
returns-clause-one c = same_colouring
