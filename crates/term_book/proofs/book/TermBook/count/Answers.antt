use Rattle.std.proofs.Common.{◌≢◌, List, subst}
use Rattle.std.specs.Prelude.{AllPairs}
use Rattle.std.proofs.lemmas.Map.Made.{AllPairs-from_IsDistinct}
use Rattle.rdf_meaning.specs.Terms.{RdfTerm}
use Rattle.rdf_meaning.specs.TermLaws.{same_term-Decides}
use Rattle.term_book.proofs.book.TermBook.count.Goals as goal

pub returns-clause-distinct : goal.returns-clause-distinct
returns-clause-distinct c =
    subst (λ (terms : List RdfTerm). AllPairs (λ a b. a ≢ b) terms) c.self.view_is (AllPairs-from_IsDistinct same_term-Decides c.self.inside.terms.keys c.self.invariant.1)
