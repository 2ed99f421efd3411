use Rattle.std.proofs.Common.{List}
use Rattle.rdf_meaning.specs.Terms.{RdfTriple}
use Rattle.layout_standing_meaning.specs.Schemas.{LayoutOf}
use Rattle.layout_standing_meaning.specs.Contents.{Contents}
use Rattle.layout_standing_meaning.specs.Standing.{Says}
use Rattle.sql_gen_star_laws.proofs.sides_say.Goals as goal

pub returns-clause-direct : goal.returns-clause-direct
returns-clause-direct c = λ (layout : LayoutOf) (k : Contents) (g : List RdfTriple) (h : Says layout k g). h.direct_triples

pub returns-clause-reverse : goal.returns-clause-reverse
returns-clause-reverse c = λ (layout : LayoutOf) (k : Contents) (g : List RdfTriple) (h : Says layout k g). h.reverse_triples
