use Rattle.sparql_query_meaning.specs.Fragment.{of_text}
use Rattle.run_query_file.proofs.Asks.{text_refused}
use Rattle.run_query_file.proofs.reading.query_asked.Goals as goal

pub returns-in-Ok-clause-query : goal.returns-in-Ok-clause-query
returns-in-Ok-clause-query c = c.in-Ok.ensures.reads

pub returns-in-Ok-clause-fragment : goal.returns-in-Ok-clause-fragment
returns-in-Ok-clause-fragment c = of_text c.args.text.now c.in-Ok.ensures.reads.is

pub returns-in-Err-clause-refused : goal.returns-in-Err-clause-refused
returns-in-Err-clause-refused c = text_refused c.args.text.now c.in-Err.refusal c.status_of.result c.in-Err.ensures.refuses c.status_of.ensures
