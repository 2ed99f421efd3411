use Rattle.sql_text_cut_laws.specs.Outcomes.{spelled_texts_dont_break}
use Rattle.sql_text_cut_laws.proofs.laws.spelled_texts_dont_break.Goals as goal

pub returns : goal.returns
returns c = spelled_texts_dont_break
