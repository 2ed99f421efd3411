use Rattle.rdf_value_laws.proofs.Integers.{class, value}
use Rattle.rdf_value_laws.proofs.integers_have_values.Goals as goal

pub returns-clause-class : goal.returns-clause-class
returns-clause-class c = class

pub returns-clause-value : goal.returns-clause-value
returns-clause-value c = value
