use Rattle.table_text.proofs.Meant.{read_plain}
use Rattle.code_tests.proofs.worked_file.tables_again.Goals as goal

-- src/worked_file.rt
pub write_tables-requires : goal.write_tables-requires
write_tables-requires c = read_plain _ _ _ c.in-Ok.ensures.read
