use Rattle.layout_choice.proofs.Lines.{given_taken, others_taken}
use Rattle.layout_choice.proofs.laws.colours_that_fit_are_taken.Goals as goal

pub returns-clause-given : goal.returns-clause-given
returns-clause-given c = given_taken

pub returns-clause-others : goal.returns-clause-others
returns-clause-others c = others_taken
