use Rattle.table_text_laws.proofs.ReadBack.{read_back}
use Rattle.table_text_laws.proofs.laws.written_tables_are_read_back.Goals as goal

pub returns : goal.returns
returns c = read_back c.texts_have_one_outcome.ensures.reading c.texts_have_one_outcome.ensures.apart
