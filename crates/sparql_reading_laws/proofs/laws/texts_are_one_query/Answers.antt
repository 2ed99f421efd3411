use Rattle.sparql_reading_laws.proofs.OneReading.{texts_are_one_query}
use Rattle.sparql_reading_laws.proofs.laws.texts_are_one_query.Goals as goal

pub returns : goal.returns
returns c = texts_are_one_query
