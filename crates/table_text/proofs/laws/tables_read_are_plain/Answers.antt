use Rattle.table_text.proofs.Meant.{read_plain}
use Rattle.table_text.proofs.laws.tables_read_are_plain.Goals as goal

-- src/laws.rt
pub returns : goal.returns
returns c = read_plain
