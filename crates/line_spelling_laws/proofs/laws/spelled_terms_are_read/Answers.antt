use Rattle.line_spelling_laws.proofs.Terms.{utf8, objects, subjects, predicates}
use Rattle.line_spelling_laws.proofs.laws.spelled_terms_are_read.Goals as goal

pub returns-clause-utf8 : goal.returns-clause-utf8
returns-clause-utf8 c = utf8

pub returns-clause-subjects : goal.returns-clause-subjects
returns-clause-subjects c = subjects

pub returns-clause-predicates : goal.returns-clause-predicates
returns-clause-predicates c = predicates

pub returns-clause-objects : goal.returns-clause-objects
returns-clause-objects c = objects
