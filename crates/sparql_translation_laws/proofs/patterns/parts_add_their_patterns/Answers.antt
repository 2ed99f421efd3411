use Rattle.sparql_translation_laws.specs.TreePatterns.{patterns-take}
use Rattle.sparql_translation_laws.proofs.patterns.parts_add_their_patterns.Goals as goal

pub returns : goal.returns
returns c = patterns-take
