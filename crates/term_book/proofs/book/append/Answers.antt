use Rattle.std.proofs.Common.{◌∙◌}
use Rattle.rdf_meaning.specs.Terms.{same_term}
use Rattle.rdf_meaning.specs.TermLaws.{same_term-Decides}
use Rattle.term_book.proofs.Places.{insert_key-absent, has_id-push}
use Rattle.term_book.proofs.book.append.Goals as goal

pub returns-clause-ok : goal.returns-clause-ok
returns-clause-ok c = c.in_ok-insert.ensures.keys ∙ insert_key-absent same_term same_term-Decides c.args.terms.now.keys c.args.t c.requires

pub returns-clause-id : goal.returns-clause-id
returns-clause-id c = has_id-push c.args.terms.now.keys c.args.t c.insert.new.self.keys (returns-clause-ok c)
