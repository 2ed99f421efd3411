use Rattle.std.proofs.Common.{List}
use Rattle.rdf_meaning.specs.Terms.{RdfTerm, RdfTriple}
use Rattle.layout_standing_meaning.specs.Schemas.{LayoutOf}
use Rattle.layout_standing_meaning.specs.Contents.{Contents}
use Rattle.layout_standing_meaning.specs.Standing.{Says}
use Rattle.layout_table_laws.proofs.Strangers.{any-direct, any-reverse}
use Rattle.layout_table_laws.proofs.values_are_held.Goals as goal

pub returns-clause-direct : goal.returns-clause-direct
returns-clause-direct c = λ (layout : LayoutOf) (k : Contents) (g : List RdfTriple) (h : Says layout k g) (e p : RdfTerm). any-direct layout.direct k.direct k.terms g h.own_terms h.direct_side h.ids h.direct_triples e p

pub returns-clause-reverse : goal.returns-clause-reverse
returns-clause-reverse c = λ (layout : LayoutOf) (k : Contents) (g : List RdfTriple) (h : Says layout k g) (e p : RdfTerm). any-reverse layout.reverse k.reverse k.terms g h.own_terms h.reverse_side h.ids h.reverse_triples e p
