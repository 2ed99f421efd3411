use Rattle.rdf_triples.proofs.Terms.{noted, grown, full_term}
use Rattle.rdf_triples.proofs.ids.note_term.Goals as goal

pub returns-clause-ok : goal.returns-clause-ok
returns-clause-ok c = noted c.intern.result c.args.terms.now c.args.term.now c.intern.new.self c.intern.ensures.book

pub returns-clause-grows : goal.returns-clause-grows
returns-clause-grows c = grown c.intern.result c.args.terms.now c.args.term.now c.intern.new.self c.intern.ensures.book c.intern.ensures.err

pub returns-clause-full : goal.returns-clause-full
returns-clause-full c h = full_term c.args.terms.now c.args.term.now (c.intern.ensures.full h)
