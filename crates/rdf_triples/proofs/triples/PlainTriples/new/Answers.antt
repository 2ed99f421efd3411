use Rattle.rdf_triples.proofs.Sound.{sound_empty}
use Rattle.rdf_triples.proofs.triples.PlainTriples.new.Goals as goal

pub invariant_of-result : goal.invariant_of-result
invariant_of-result c = sound_empty c.new.result c.new-2.result.keys c.new.ensures c.new-2.ensures.empty
