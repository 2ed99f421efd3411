use Rattle.colouring_file_meaning.proofs.Texts.{colours_read, colours_refused, colours_fit}
use Rattle.colouring_file_meaning.proofs.colouring_is_read.Goals as goal

pub returns-clause-read : goal.returns-clause-read
returns-clause-read c = colours_read

pub returns-clause-refused : goal.returns-clause-refused
returns-clause-refused c = colours_refused

pub returns-clause-fit : goal.returns-clause-fit
returns-clause-fit c = colours_fit
