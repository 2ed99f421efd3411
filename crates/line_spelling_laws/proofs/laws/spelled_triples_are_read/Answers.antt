use Rattle.line_spelling_laws.proofs.Triples.{lines}
use Rattle.line_spelling_laws.proofs.laws.spelled_triples_are_read.Goals as goal

pub returns : goal.returns
returns c = lines
