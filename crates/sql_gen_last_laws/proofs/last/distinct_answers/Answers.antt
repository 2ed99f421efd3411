use Rattle.sql_gen_last_laws.proofs.DistinctAnswer.{distinct-answer}
use Rattle.sql_gen_last_laws.proofs.last.distinct_answers.Goals as goal

pub returns : goal.returns
returns c = distinct-answer
