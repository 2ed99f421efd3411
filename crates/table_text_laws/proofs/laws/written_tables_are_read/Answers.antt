use Rattle.table_text_laws.proofs.ReadBack.{read_as_written}
use Rattle.table_text_laws.proofs.laws.written_tables_are_read.Goals as goal

pub returns : goal.returns
returns c = read_as_written
