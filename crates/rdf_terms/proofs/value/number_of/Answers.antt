use Rattle.rdf_terms.proofs.Ranked.{some_value}
use Rattle.rdf_terms.proofs.value.number_of.Goals as goal

pub returns-clause-some : goal.returns-clause-some
returns-clause-some c = rw c.rank_of.ensures (some_value c.args.t.now.kind c.args.t.now.text c.args.t.now.aux)
