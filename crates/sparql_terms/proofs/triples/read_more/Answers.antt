use Rattle.sparql_terms.specs.TripleSteps.{more_some, more_empty}
use Rattle.sparql_terms.proofs.triples.read_more.Goals as goal

pub returns-in_ok-patterns-clause-reads : goal.returns-in_ok-patterns-clause-reads
returns-in_ok-patterns-clause-reads c = more_some _ _ _ _ (c.verb_ahead.ensures.yes c.if-verb_ahead.true) c.in_ok-patterns.ensures.reads

pub returns-else-verb_ahead-clause-reads : goal.returns-else-verb_ahead-clause-reads
returns-else-verb_ahead-clause-reads c = more_empty _ _ _ (c.verb_ahead.ensures.no c.if-verb_ahead.false) c.new.ensures
