use Rattle.rdf_meaning.specs.Terms.{same_term}
use Rattle.rdf_meaning.specs.TermLaws.{same_term-Decides}
use Rattle.term_book.proofs.Places.{place-cases}
use Rattle.term_book.proofs.book.place.Goals as goal

pub returns : goal.returns
returns c = record { cases = place-cases same_term same_term-Decides c.args.terms.now.keys c.args.t.now c.get_index_of.result c.get_index_of.ensures.index c.get_index_of.ensures.found }
