use Rattle.sql_gen_last_laws.proofs.LastRows.{last-answer}
use Rattle.sql_gen_last_laws.proofs.last.last_rows.Goals as goal

pub returns : goal.returns
returns c = last-answer
