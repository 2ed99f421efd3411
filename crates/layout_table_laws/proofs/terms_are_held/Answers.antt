use Rattle.std.proofs.Common.{◌≡◌, true, List}
use Rattle.rdf_meaning.specs.Terms.{RdfTerm}
use Rattle.table_meaning.specs.Tables.{NamedTable}
use Rattle.layout_standing_meaning.specs.Dictionary.{AreEntries, has_term}
use Rattle.layout_standing_meaning.specs.Schemas.{LayoutOf}
use Rattle.layout_standing_meaning.specs.Contents.{Contents}
use Rattle.layout_standing_meaning.specs.Standing.{AreTables}
use Rattle.layout_facts_laws.proofs.Ids.{told}
use Rattle.layout_table_laws.proofs.TermRows.{terms_held}
use Rattle.layout_table_laws.proofs.terms_are_held.Goals as goal

pub returns-clause-rows : goal.returns-clause-rows
returns-clause-rows c = λ (layout : LayoutOf) (k : Contents) (tables : List NamedTable) (h : AreTables layout k tables) (entries : AreEntries k.terms). terms_held layout k tables h entries

pub returns-clause-numbers : goal.returns-clause-numbers
returns-clause-numbers c = λ (k : Contents) (h : AreEntries k.terms) (s t : RdfTerm) (hs : has_term k.terms s ≡ true) (ht : has_term k.terms t ≡ true). told k.terms h s t ht
